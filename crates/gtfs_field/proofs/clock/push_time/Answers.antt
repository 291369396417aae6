use Rattle.std.proofs.Common.{◌≤◌}
use Rattle.gtfs_field.proofs.Texts.{time_of-text, time_text-unique, time-slice, time-ascii}
use Rattle.gtfs_field.proofs.clock.push_time.Goals as goal

pub push_ascii-requires : goal.push_ascii-requires
push_ascii-requires c =
    let v = c.seconds-seconds.result in
    rw (time-slice v c.spare_digits.result c.time_bytes.result c.spare_digits.ensures.bound c.spare_digits.ensures.value c.time_bytes.ensures) (time-ascii v c.seconds-seconds.ensures.bound)

pub returns-clause-appended : goal.returns-clause-appended
returns-clause-appended c =
    let v = c.seconds-seconds.result in
    rw (← c.seconds-seconds.ensures.value, ← time-slice v c.spare_digits.result c.time_bytes.result c.spare_digits.ensures.bound c.spare_digits.ensures.value c.time_bytes.ensures) c.push_ascii.ensures.appended

pub returns-clause-reads_back : goal.returns-clause-reads_back
returns-clause-reads_back c = time_of-text c.args.clock

pub returns-clause-unique : goal.returns-clause-unique
returns-clause-unique c =
    let most_here : c.args.clock ≤ 7_199_999 = rw (← c.seconds-seconds.ensures.value) c.seconds-seconds.ensures.bound in
    λ other most same. time_text-unique other c.args.clock most most_here same

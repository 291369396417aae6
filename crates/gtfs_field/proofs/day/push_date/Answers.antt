use Rattle.std.proofs.Common.{◌≡◌, ◌≤ℤ◌, negsuc, pos, ◌∙◌}
use Rattle.jiff_core.proofs.DateLemmas.{epoch_day_range}
use Rattle.gtfs_field.specs.Canonical.{date_text}
use Rattle.gtfs_field.proofs.Dates.{date-ascii, date_text-same, date_of-text, date_text-unique, day_number-low}
use Rattle.gtfs_field.proofs.day.push_date.Goals as goal

pub push_ascii-requires : goal.push_ascii-requires
push_ascii-requires c = rw c.date_bytes.ensures (date-ascii c.date.result)

pub returns-clause-appended : goal.returns-clause-appended
returns-clause-appended c =
    let text : c.date_bytes.result ≡ date_text c.args.day = c.date_bytes.ensures ∙ date_text-same c.date.result c.args.day c.date.ensures.from c.date.ensures.number in
    rw text at c.push_ascii.ensures.appended

pub returns-clause-reads_back : goal.returns-clause-reads_back
returns-clause-reads_back c =
    let low : negsuc 25_566 ≤ℤ c.args.day = rw (← c.date.ensures.number) (day_number-low c.date.result c.date.ensures.from) in
    let high : c.args.day ≤ℤ pos 2_932_896 = rw (← c.date.ensures.number) (epoch_day_range c.date.result).1 in
    date_of-text c.args.day low high

pub returns-clause-unique : goal.returns-clause-unique
returns-clause-unique c =
    let low : negsuc 25_566 ≤ℤ c.args.day = rw (← c.date.ensures.number) (day_number-low c.date.result c.date.ensures.from) in
    let high : c.args.day ≤ℤ pos 2_932_896 = rw (← c.date.ensures.number) (epoch_day_range c.date.result).1 in
    λ other other-low other-high same. date_text-unique other c.args.day other-low other-high low high same

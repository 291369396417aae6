use Rattle.std.proofs.Common.{codes, string_bytes}
use Rattle.gtfs_field.specs.Canonical.{time_text}
use Rattle.gtfs_board.proofs.Joined.{joined}
use Rattle.gtfs_board.proofs.SheetTexts.{after, pushed}
use Rattle.gtfs_board.proofs.sheet.text.push_clock.Goals as goal

pub returns-in-Some : goal.returns-in-Some
returns-in-Some c = rw c.in-Some.is (after c.push_time.result (string_bytes c.args.text.now) (codes "\t") _ _ (time_text c.in-Some.clock) c.in_ok-push_str.ensures.bytes c.push_time.ensures.appended)

pub returns-in-None : goal.returns-in-None
returns-in-None c =
    rw c.in-None.is (pushed c.push_str-in-None.result _ (string_bytes c.push_str.new.self) _ (codes "-") c.push_str-in-None.ensures.bytes
    (λ last. joined (string_bytes c.args.text.now) _ _ (codes "\t") (codes "-") c.in_ok-push_str.ensures.bytes last))

use Rattle.std.proofs.Common.{codes, string_bytes}
use Rattle.gtfs_board.specs.LentSheets.{plain_sheet}
use Rattle.gtfs_board.proofs.SheetTexts.{pushed, title-joined}
use Rattle.gtfs_board.proofs.sheet.text.push_title.Goals as goal

pub returns : goal.returns
returns c =
    pushed c.push_str-5.result _ (string_bytes c.push_date.new.text) _ (codes "\n") c.push_str-5.ensures.bytes (λ last.
    title-joined (plain_sheet c.args.sheet.now) (string_bytes c.args.text.now) _ _ _ _ _ _ _
    c.in_ok-push_str.ensures.bytes c.in_ok-push_str-2.ensures.bytes c.in_ok-push_str-3.ensures.bytes c.in_ok-push_direction.ensures
    c.in_ok-push_str-4.ensures.bytes c.in_ok-push_date.ensures.appended last)

use Rattle.std.proofs.Common.{refl, string_bytes}
use Rattle.gtfs_board.specs.LentSheets.{plain_sheet}
use Rattle.gtfs_board.proofs.SheetTexts.{pushed, sheet-joined}
use Rattle.gtfs_board.proofs.sheet.text.push_sheet.Goals as goal

pub returns-clause-appended : goal.returns-clause-appended
returns-clause-appended c =
    pushed c.push_str.result _ (string_bytes c.args.text.now) _ c.as_str.result.now c.push_str.ensures.bytes (λ last.
    sheet-joined (λ id. id.now) c.args.sheet.now.runs _ (plain_sheet c.args.sheet.now) (string_bytes c.args.text.now) _ _ _ _ _ _
    refl c.as_slice.ensures c.new-whole.ensures.bytes c.in_ok-push_title.ensures c.in_ok-push_trips.ensures c.in_ok-push_stops.ensures
    c.as_str.ensures.value last)

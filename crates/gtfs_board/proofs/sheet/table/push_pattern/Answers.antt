use Rattle.std.proofs.Common.{◌∙◌, [], ◌∷◌, length, map, sym, ap, subst}
use Rattle.std.specs.Prelude.{All, ◌==◌}
use Rattle.std.proofs.lemmas.List.{map-append}
use Rattle.gtfs_runs.specs.Tallies.{tally}
use Rattle.gtfs_times.specs.TimedRows.{timed_parts}
use Rattle.gtfs_times.proofs.FilledContent.{sound-timed}
use Rattle.gtfs_board.specs.LentSheets.{plain_sheet}
use Rattle.gtfs_board.specs.TimetableColumns.{HasRow, IsShownAlong, is_column_of, sheet_along, sheet_of_columns}
use Rattle.gtfs_board.proofs.SheetColumns.{all-shown, none-added, one-added}
use Rattle.gtfs_board.proofs.TimedSheets.{columns-same, pattern-timed}
use Rattle.gtfs_board.proofs.sheet.table.push_pattern.Goals as goal

pub columns-requires : goal.columns-requires
columns-requires c = subst (All (HasRow c.args.feed.now)) (sym c.as_slice-trips.ensures) c.requires.trips

pub sheet_of-requires-clause-shown : goal.sheet_of-requires-clause-shown
sheet_of-requires-clause-shown c =
    let p = c.args.feed.now in
    let d = c.args.day in
    subst (All (IsShownAlong p (length c.args.pattern.now.stops))) (sym c.as_slice-shown.ensures.value)
    (all-shown p c.soundness.ensures d c.args.pattern.now c.requires c.in_ok-columns.columns.items
    (λ y. c.in_ok-columns.ensures.told y ∙ ap (tally (is_column_of p d y)) c.as_slice-trips.ensures) c.in_ok-columns.ensures.in_order)

pub returns-then-is_empty : goal.returns-then-is_empty
returns-then-is_empty c =
    let p = c.args.feed.now in
    let d = c.args.day in
    let x = c.args.pattern.now in
    let q = timed_parts c.args.times p in
    none-added q (sound-timed p c.soundness.ensures c.args.times) d x (pattern-timed c.args.times p c.soundness.ensures x c.requires) c.in_ok-columns.columns.items
    (λ y. c.in_ok-columns.ensures.told y ∙ ap (tally (is_column_of p d y)) c.as_slice-trips.ensures ∙ columns-same c.args.times p c.soundness.ensures d y x.trips) c.in_ok-columns.ensures.in_order
    (sheet_along q c.args.route.now d x) (map plain_sheet c.args.found.now.items) (ap (λ ys. length ys == 0) (sym c.as_slice-shown.ensures.value) ∙ sym c.is_empty.ensures ∙ c.if-is_empty.true)

pub returns : goal.returns
returns c =
    let p = c.args.feed.now in
    let d = c.args.day in
    let x = c.args.pattern.now in
    let q = timed_parts c.args.times p in
    ap (map plain_sheet) c.in_ok-push.ensures.items ∙ map-append plain_sheet c.args.found.now.items (c.in_ok-sheet.sheet ∷ [])
    ∙ one-added q (sound-timed p c.soundness.ensures c.args.times) d x (pattern-timed c.args.times p c.soundness.ensures x c.requires) c.in_ok-columns.columns.items
    (λ y. c.in_ok-columns.ensures.told y ∙ ap (tally (is_column_of p d y)) c.as_slice-trips.ensures ∙ columns-same c.args.times p c.soundness.ensures d y x.trips) c.in_ok-columns.ensures.in_order
    c.args.route.now (plain_sheet c.in_ok-sheet.sheet) (map plain_sheet c.args.found.now.items) (ap (λ ys. length ys == 0) (sym c.as_slice-shown.ensures.value) ∙ sym c.is_empty.ensures ∙ c.if-is_empty.false)
    (c.in_ok-sheet.ensures ∙ ap (sheet_of_columns q c.args.route.now d x) c.as_slice-shown.ensures.value)

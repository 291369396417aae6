use Rattle.std.proofs.Common.{◌≡◌, ◌∙◌, map, sym, subst}
use Rattle.std.specs.Prelude.{All}
use Rattle.std.specs.List.{filter, flat_map}
use Rattle.gtfs_rows.specs.RowsInMemory.{route_ids, text_of_number}
use Rattle.gtfs_times.specs.TimedRows.{timed_parts}
use Rattle.gtfs_board.specs.LentSheets.{plain_sheet}
use Rattle.gtfs_board.specs.TimetableColumns.{IsPattern, goes, sheets_along}
use Rattle.gtfs_runs.proofs.TripIds.{text_at}
use Rattle.gtfs_board.proofs.SheetPatterns.{patterns-are}
use Rattle.gtfs_board.proofs.TimedSheets.{sheets-timed}
use Rattle.gtfs_board.proofs.sheet.table.sheets_of_route.Goals as goal

pub sheets_of-requires : goal.sheets_of-requires
sheets_of-requires c =
    let p = c.args.feed.now in
    subst (All (IsPattern p)) (sym c.as_slice.ensures.value) (patterns-are p c.soundness.ensures c.args.route.0 c.in_ok-patterns.patterns.items c.in_ok-patterns.ensures)

pub returns-clause-sheets : goal.returns-clause-sheets
returns-clause-sheets c =
    let p = c.args.feed.now in
    let n = c.args.route.0 in
    let id : c.as_str-id.result.now ≡ text_of_number (route_ids p) n = c.as_str-id.ensures ∙ sym (text_at (λ r. r.route_id) p.routes n c.route_by_number.result.now c.route_by_number.ensures) in
    sheets-timed c.args.times p c.soundness.ensures n c.requires c.in_ok-patterns.patterns.items c.in_ok-patterns.ensures c.args.direction c.args.day (map plain_sheet c.in_ok-found.found.items)
    (c.in_ok-found.ensures ∙ (λ i. flat_map (sheets_along (timed_parts c.args.times p) (id i) c.args.day) (filter (goes c.args.direction) (c.as_slice.ensures.value i))))

use Rattle.std.proofs.Common.{◌≡◌, map, take}
use Rattle.std.specs.List.{filter, flat_map}
use Rattle.gtfs_times.specs.TimedRows.{timed_parts}
use Rattle.gtfs_board.specs.LentSheets.{plain_sheet}
use Rattle.gtfs_board.specs.TimetableColumns.{goes, sheets_along}
use Rattle.gtfs_board.proofs.sheet.table.sheets_of.Given as goal

-- the sheets of the patterns so far
abbrev pub invariant-loop-pattern : goal.invariant-loop-pattern
invariant-loop-pattern l = map plain_sheet l.found.items ≡ flat_map (sheets_along (timed_parts l.times l.feed) l.route l.day) (filter (goes l.direction) (take l.pattern-index l.patterns))

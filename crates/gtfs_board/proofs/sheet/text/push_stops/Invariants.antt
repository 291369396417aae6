use Rattle.std.proofs.Common.{◌≡◌, ◌++◌, string_bytes, take}
use Rattle.std.specs.Prelude.{zip}
use Rattle.std.specs.List.{flat_map}
use Rattle.gtfs_board.specs.LentSheets.{plain_sheet}
use Rattle.gtfs_board.specs.Timetable.{stop_text}
use Rattle.gtfs_board.proofs.sheet.text.push_stops.Given as goal

-- the lines so far
abbrev pub invariant-loop-position : goal.invariant-loop-position
invariant-loop-position l = let s = plain_sheet l.sheet in string_bytes l.text ≡ string_bytes l.fn.text ++ flat_map stop_text (take l.position (zip s.stops s.times))

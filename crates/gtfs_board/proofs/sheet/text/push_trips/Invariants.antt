use Rattle.std.proofs.Common.{◌≡◌, ◌++◌, codes, string_bytes, take}
use Rattle.std.specs.List.{flat_map}
use Rattle.gtfs_board.specs.Timetable.{after_tab}
use Rattle.gtfs_board.proofs.sheet.text.push_trips.Given as goal

-- the trips of the runs so far
abbrev pub invariant-loop-run : goal.invariant-loop-run
invariant-loop-run l = string_bytes l.text ≡ string_bytes l.fn.text ++ (codes "trip" ++ flat_map (λ run. after_tab run.1.now) (take l.run-index l.runs))

use Rattle.std.proofs.Common.{◌≡◌, ◌++◌, string_bytes, take}
use Rattle.std.specs.List.{flat_map}
use Rattle.gtfs_board.specs.Timetable.{after_tab, time_shown}
use Rattle.gtfs_board.proofs.sheet.text.push_stop.Given as goal

-- the stop and the times so far
abbrev pub invariant-loop-time : goal.invariant-loop-time
invariant-loop-time l = string_bytes l.text ≡ string_bytes l.fn.text ++ (l.stop ++ flat_map (λ time. after_tab (time_shown time)) (take l.time-index l.times))

use Rattle.std.proofs.Common.{◌≡◌, ◌++◌, take}
use Rattle.std.specs.List.{flat_map}
use Rattle.gtfs_stop_times.specs.KeptStretches.{numbers_of}
use Rattle.gtfs_stop_times.proofs.together.push_all.Given as goal

abbrev pub invariant-loop-stretch : goal.invariant-loop-stretch
invariant-loop-stretch l = l.rows.items ≡ l.initial.rows.items ++ flat_map (numbers_of l.order) (take l.stretch-index l.stretches)

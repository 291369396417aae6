use Rattle.std.proofs.Common.{◌≡◌, ◌≤◌, ◌^◌, drop}
use Rattle.gtfs_stop_times.specs.KeptStretches.{ascend_from}
use Rattle.gtfs_stop_times.proofs.together.ascend.Given as goal

-- what is left to ask
abbrev pub invariant-loop-stretch : goal.invariant-loop-stretch
invariant-loop-stretch l = (ascend_from 0 l.stretches ≡ ascend_from l.least (drop l.stretch-index l.stretches)) × (l.least ≤ 2 ^ 32)

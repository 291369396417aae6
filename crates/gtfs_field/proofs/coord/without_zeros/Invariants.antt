use Rattle.std.proofs.Common.{◌≡◌, length}
use Rattle.gtfs_field.specs.Digits.{without_last_zeros}
use Rattle.gtfs_field.proofs.coord.without_zeros.Given as goal

-- only zeros have gone
abbrev pub invariant-loop-rest : goal.invariant-loop-rest
invariant-loop-rest l = without_last_zeros l.rest ≡ without_last_zeros l.digits

abbrev pub decreases-loop-rest : goal.decreases-loop-rest
decreases-loop-rest l = length l.rest

use Rattle.std.proofs.Common.{◌≡◌, ◌<◌, ◌==◌, ℕ, All, take}
use Rattle.gtfs_runs.specs.Tallies.{tally}
use Rattle.gtfs_runs.proofs.RunStarts as period
use Rattle.gtfs_runs.proofs.flat.starts.Given as goal

-- those of the periods so far
abbrev pub invariant-loop-period : goal.invariant-loop-period
invariant-loop-period l = ((r : ℕ) → tally (λ x. r == x) l.starts.items ≡ tally (period.starts r) (take l.period-index l.periods))
    × All (λ r. r < 7_200_000) l.starts.items

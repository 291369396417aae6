use Rattle.std.proofs.Common.{◌≡◌, ◌≤◌, ◌<◌, ◌+◌, ◌==◌, ℕ, All, cond}
use Rattle.gtfs_runs.specs.Tallies.{tally}
use Rattle.gtfs_runs.proofs.Tallies.{starts_before}
use Rattle.gtfs_runs.proofs.flat.push_starts.Given as goal

-- those of the seconds so far
abbrev pub invariant-loop-second : goal.invariant-loop-second
invariant-loop-second l = ((r : ℕ) → tally (λ x. r == x) l.starts.items ≡ tally (λ x. r == x) l.fn.starts.items + cond (starts_before l.start l.period.headway_secs l.second r) 1 0)
    × (All (λ r. r < 7_200_000) l.fn.starts.items → All (λ r. r < 7_200_000) l.starts.items)
    × (l.start ≤ l.second) × (l.second ≤ l.second-end)

use Rattle.std.proofs.Common.{◌≡◌, ◌&&◌, ℕ, cond, nat_lt}
use Rattle.gtfs_runs.specs.Tallies.{tally}
use Rattle.gtfs_runs.specs.steps.Children.{is_child, is_pair}
use Rattle.gtfs_runs.proofs.stop_index.children.gathered.Given as goal

-- those of the stops so far
abbrev pub invariant-loop-number : goal.invariant-loop-number
invariant-loop-number l = (s n : ℕ) → tally (is_pair s n) l.found.items ≡ cond (nat_lt n l.number && is_child l.feed s n) 1 0

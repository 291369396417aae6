use Rattle.std.specs.Prelude.{pos, ◌≤ℤ◌}
use Rattle.gtfs_days_tests.proofs.ManyDays.{AreBefore}
use Rattle.gtfs_days_tests.proofs.cuts.many_exceptions.Given as goal

-- all exceptions so far are for days before this one, and no two are for one day
abbrev pub invariant-loop-number : goal.invariant-loop-number
invariant-loop-number l = (pos 0 ≤ℤ l.number) × AreBefore l.number l.exceptions.items

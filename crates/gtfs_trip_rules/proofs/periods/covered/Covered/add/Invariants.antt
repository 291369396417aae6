use Rattle.std.proofs.Common.{◌≡◌, ℕ, ◌&&◌, ◌||◌, ◌<◌, length}
use Rattle.std.specs.Prelude.{nat_eq}
use Rattle.gtfs_trip_rules.specs.PeriodSpans.{covers, shares}
use Rattle.gtfs_trip_rules.proofs.periods.covered.Covered.add.Given as goal

-- the spans that are left and the one to come cover what the spans and the period do
abbrev pub invariant-loop-met_start : goal.invariant-loop-met_start
invariant-loop-met_start l = record {
  filled : l.first < l.past;
  same : (t : ℕ) (s e : ℕ) → (covers l.self.spans t s e || (nat_eq t l.trip && shares l.first l.past s e))
      ≡ (covers l.fn.self.spans t s e || (nat_eq t l.fn.trip && shares l.fn.start l.fn.end s e));
}

abbrev pub decreases-loop-met_start : goal.decreases-loop-met_start
decreases-loop-met_start l = length l.self.spans.entries

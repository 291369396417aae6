use Rattle.std.proofs.Common.{◌≡◌, ◌<◌, ◌+◌, ℕ, [], ◌∷◌, Some, cond, length, map, take}
use Rattle.std.specs.Prelude.{◌==◌}
use Rattle.std.specs.List.{All, slice_get}
use Rattle.gtfs_rows.specs.Content.{Content}
use Rattle.gtfs_rows.specs.Rows.{Trip}
use Rattle.gtfs_rows.specs.RowsInMemory.{frequency_of}
use Rattle.gtfs_runs.specs.LaneKinds.{IsPeriodLane}
use Rattle.gtfs_runs.specs.StopLanes.{period_value}
use Rattle.gtfs_runs.specs.declared.event.Event.{Event}
use Rattle.gtfs_runs.specs.steps.FoundEvents.{times_passed_in, times_told}
use Rattle.gtfs_runs.proofs.stop_lanes.found.add_periods.Given as goal

-- the lanes of the periods so far
abbrev pub invariant-loop-frequency : goal.invariant-loop-frequency
invariant-loop-frequency l = record {
  told : (k : ℕ) (e : Event) → times_told k e (map period_value l.periods.items)
      ≡ times_told k e (map period_value l.fn.periods.items) + cond (l.service.0 == k) (times_passed_in l.trip.0 e (l.passing ∷ []) (take l.frequency-index l.frequencies)) 0;
  counted : length l.periods.items ≡ length l.fn.periods.items + l.frequency-index;
  within : (n : ℕ) → l.service.0 < n → All (λ lane. lane.service < n) (map period_value l.fn.periods.items) → All (λ lane. lane.service < n) (map period_value l.periods.items);
  kind : (c : Content) (t : Trip) → slice_get c.trips l.trip.0 ≡ Some t → t.frequencies ≡ map frequency_of l.frequencies
      → All (IsPeriodLane c) (map period_value l.fn.periods.items) → All (IsPeriodLane c) (map period_value l.periods.items);
}

use Rattle.std.proofs.Common.{◌≡◌, ◌<◌, ℕ, get_or, map}
use Rattle.gtfs_rows.specs.declared.parts.Parts.{Parts}
use Rattle.gtfs_runs.specs.declared.stop_lanes.listed.ListedEvent.{ListedEvent}
use Rattle.gtfs_runs.specs.steps.Courses.{AreServed, stopping_of}
use Rattle.gtfs_runs.specs.steps.TripGroups.{below, trip_group}
use Rattle.gtfs_runs.proofs.stop_lanes.numbered.with_groups.Given as goal

-- those so far have their numbers
abbrev pub invariant-loop-n : goal.invariant-loop-n
invariant-loop-n l = record {
  same : (p : Parts) → map (stopping_of p) l.listed.items ≡ map (stopping_of p) l.fn.listed.items;
  trips : map (λ x. x.trip) l.listed.items ≡ map (λ x. x.trip) l.fn.listed.items;
  numbers : (k : ℕ) (d : ListedEvent) → k < l.n → (get_or l.listed.items k d).group ≡ below l.trips (trip_group l.feed (get_or l.listed.items k d).trip);
  services : (p : Parts) → AreServed p l.fn.listed.items → AreServed p l.listed.items;
}

use Rattle.std.proofs.Common.{◌≡◌, ◌≤◌, ◌<◌, ◌==◌, ℕ, get_or, length, map}
use Rattle.std.specs.List.{All}
use Rattle.gtfs_runs.specs.Tallies.{tally}
use Rattle.gtfs_runs.specs.declared.stop_lanes.listed.ListedEvent.{ListedEvent}
use Rattle.gtfs_runs.specs.steps.TripGroups.{trip_group}
use Rattle.gtfs_runs.proofs.stop_lanes.numbered.trips_of.Given as goal

-- the trips of the events so far
abbrev pub invariant-loop-n : goal.invariant-loop-n
invariant-loop-n l = record {
  known : All (λ t. t.0 < length l.feed.trips) l.trips.items;
  all : (k : ℕ) (d : ListedEvent) → k < l.n → 1 ≤ tally (λ t. (get_or l.listed k d).trip == t.0) l.trips.items;
  stops : l.lists ≡ map (λ t. (trip_group l.feed t.0).1) l.trips.items;
}

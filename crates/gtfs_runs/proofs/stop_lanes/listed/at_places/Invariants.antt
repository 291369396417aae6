use Rattle.std.proofs.Common.{◌≡◌, get_or, map, take}
use Rattle.gtfs_runs.specs.declared.stop_lanes.listed.ListedEvent.{ListedEvent}
use Rattle.gtfs_runs.proofs.stop_lanes.listed.at_places.Given as goal

-- the events at the places so far
abbrev pub invariant-loop-place : goal.invariant-loop-place
invariant-loop-place l = (d : ListedEvent) → l.found.items ≡ map (λ x. get_or l.listed x.at d) (take l.place-index l.places)

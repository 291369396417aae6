use Rattle.std.proofs.Common.{◌≡◌, ◌<◌, get_or, length, map, take}
use Rattle.std.specs.List.{All}
use Rattle.gtfs_runs.specs.declared.stop_lanes.listed.ListedEvent.{ListedEvent}
use Rattle.gtfs_runs.proofs.stop_lanes.listed.places_by_rank.Given as goal

-- the places so far are those of the first events
abbrev pub invariant-loop-at : goal.invariant-loop-at
invariant-loop-at l = record {
  within : All (λ x. x.at < length l.listed) l.places.items;
  same : (d : ListedEvent) → map (λ x. get_or l.listed x.at d) l.places.items ≡ map (λ y. y) (take l.at l.listed);
}

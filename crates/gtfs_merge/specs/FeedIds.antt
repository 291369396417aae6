-- The ids of a kind that a feed has, by their numbers.
use Rattle.std.specs.Prelude.{ℕ, List}
use Rattle.gtfs_rows.specs.RowsInMemory.{agency_ids, route_ids, service_ids, stop_ids, trip_ids}
use Rattle.gtfs_rows.specs.declared.parts.Parts.{Parts}
use Rattle.gtfs_merge.specs.declared.kind.Kind.{Kind}
use Rattle.gtfs_merge.specs.declared.kind.Kind.TheVariants as kind

-- the ids of a kind that parts have
abbrev pub known_ids : Kind → Parts → List (List ℕ)
known_ids kind.Agency p = agency_ids p
known_ids kind.Stop p = stop_ids p
known_ids kind.Route p = route_ids p
known_ids kind.Service p = service_ids p
known_ids kind.Trip p = trip_ids p

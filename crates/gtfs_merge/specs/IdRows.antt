-- The rows with ids of a merged feed: what the lists stand for, and that their numbers lie within them.
use Rattle.std.specs.Prelude.{◌≡◌, true, map}
use Rattle.std.specs.List.{list_all}
use Rattle.gtfs_rows.specs.NamedRows.{names_agency, names_parent, names_route_and_service, route_named, stop_named, trip_named, without_rows}
use Rattle.gtfs_rows.specs.RowsInMemory.{agency_of, service_of}
use Rattle.gtfs_merge.specs.MergedSides.{merged_parts, merged_ids}
use Rattle.gtfs_merge.specs.declared.rows.with_ids.IdRows.{IdRows}
use Rattle.gtfs_merge.specs.declared.kind.Kind.TheVariants as kind
use Rattle.gtfs_merge.specs.declared.sides.Sides.{Sides}

-- with ids instead of numbers the rows are those of the merged content; trips without their stop times and frequencies
pub record AreIdRows (sides : Sides) (r : IdRows) : Type 0 where
  pub agencies : map agency_of r.agencies ≡ (merged_parts sides).agencies
  pub stops : map (stop_named (merged_ids kind.Stop sides)) r.stops ≡ (merged_parts sides).stops
  pub routes : map (route_named (merged_ids kind.Agency sides)) r.routes ≡ (merged_parts sides).routes
  pub services : map service_of r.services ≡ (merged_parts sides).services
  pub trips : map (trip_named (merged_ids kind.Route sides) (merged_ids kind.Service sides)) r.trips ≡ map without_rows (merged_parts sides).trips
  -- each number is that of a row of the merged feed
  pub parents : list_all (names_parent (merged_ids kind.Stop sides)) r.stops ≡ true
  pub route_agencies : list_all (names_agency (merged_ids kind.Agency sides)) r.routes ≡ true
  pub trip_references : list_all (names_route_and_service (merged_ids kind.Route sides) (merged_ids kind.Service sides)) r.trips ≡ true

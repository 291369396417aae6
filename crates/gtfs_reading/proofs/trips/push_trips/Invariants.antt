use Rattle.std.proofs.Common.{◌≡◌, codes, length, map, take, true}
use Rattle.std.specs.List.{list_all}
use Rattle.gtfs_table.specs.declared.file.File.TheVariants as file
use Rattle.gtfs_schema.specs.steps.Ids.{first_rows, rows_by_number}
use Rattle.gtfs_rows.specs.ContentRead.{trip_in}
use Rattle.gtfs_reading.specs.NamedTexts.{ids_of}
use Rattle.gtfs_rows.specs.NamedRows.{names_route_and_service, trip_named, without_rows}
use Rattle.gtfs_reading.specs.ServiceIds.{service_ids}
use Rattle.gtfs_reading.proofs.trips.push_trips.Given as goal

-- the rows so far
abbrev pub invariant-loop-number : goal.invariant-loop-number
invariant-loop-number l = record {
  listed : map (trip_named (ids_of l.tables file.Routes "route_id") (service_ids l.tables)) l.trips.items ≡ map (λ n. without_rows (trip_in l.tables n)) (take l.number (rows_by_number l.ids));
  within : list_all (names_route_and_service (ids_of l.tables file.Routes "route_id") (service_ids l.tables)) l.trips.items ≡ true;
  end : l.number-end ≡ length (rows_by_number l.ids);
  finder : l.routes.ids.now ≡ first_rows l.tables file.Routes (codes "route_id");
}

use Rattle.std.proofs.Common.{◌≡◌, codes, map, true}
use Rattle.std.specs.List.{list_all}
use Rattle.gtfs_table.specs.Rows.{numbers}
use Rattle.gtfs_table.specs.declared.file.File.TheVariants as file
use Rattle.gtfs_schema.specs.steps.Ids.{first_rows}
use Rattle.gtfs_rows.specs.ContentRead.{transfer_in}
use Rattle.gtfs_reading.specs.NamedTexts.{ids_of}
use Rattle.gtfs_rows.specs.TransferEnds.{names_ends, transfer_named}
use Rattle.gtfs_reading.proofs.transfers.push_in_file_order.Given as goal

-- the rows so far
abbrev pub invariant-loop-row : goal.invariant-loop-row
invariant-loop-row l = record {
  listed : map (transfer_named (ids_of l.tables file.Stops "stop_id") (ids_of l.tables file.Routes "route_id") (ids_of l.tables file.Trips "trip_id")) l.transfers.items ≡ map (transfer_in l.tables) (numbers l.yielded);
  within : list_all (names_ends (ids_of l.tables file.Stops "stop_id") (ids_of l.tables file.Routes "route_id") (ids_of l.tables file.Trips "trip_id")) l.transfers.items ≡ true;
  stops : l.stops.ids.now ≡ first_rows l.tables file.Stops (codes "stop_id");
  routes : l.routes.ids.now ≡ first_rows l.tables file.Routes (codes "route_id");
  trips : l.trips.ids.now ≡ first_rows l.tables file.Trips (codes "trip_id");
}

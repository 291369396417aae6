use Rattle.std.proofs.Common.{◌∙◌, ap, map}
use Rattle.std.specs.List.{list_all}
use Rattle.gtfs_table.specs.declared.file.File.TheVariants as file
use Rattle.gtfs_table.proofs.RowFacts.{all_taken, listed_more, turn}
use Rattle.gtfs_rows.specs.ContentRead.{transfer_in}
use Rattle.gtfs_reading.specs.NamedTexts.{ids_of}
use Rattle.gtfs_rows.specs.TransferEnds.{names_ends, transfer_named}
use Rattle.gtfs_reading.proofs.Fields.{all_next}
use Rattle.gtfs_reading.proofs.transfers.push_in_file_order.Goals as goal

pub loop-row-init : goal.loop-row-init
loop-row-init c =
    let d = c.args.tables.now in
    record {
      listed = ap (map (transfer_named (ids_of d file.Stops "stop_id") (ids_of d file.Routes "route_id") (ids_of d file.Trips "trip_id"))) c.requires.none;
      within = ap (list_all (names_ends (ids_of d file.Stops "stop_id") (ids_of d file.Routes "route_id") (ids_of d file.Trips "trip_id"))) c.requires.none;
      stops = c.new-stops.ensures ∙ c.requires.stops;
      routes = c.new-routes.ensures ∙ c.requires.routes;
      trips = c.new-trips.ensures ∙ c.requires.trips;
    }

pub transfer-transfer-requires-clause-row : goal.transfer-transfer-requires-clause-row
transfer-transfer-requires-clause-row c =
    let d = c.args.tables.now in
    let from = c.into_iter-row-iterator.ensures.into_iter_gives ∙ c.rows-row-items.ensures in
    let t = turn d file.Transfers _ c.loop-row.yielded _ from c.loop-row.yielded_by c.in-Some.row c.in-Some.field-0-1 _ c.in-Some.ensures.steps in
    t.is_row

pub loop-row-preserved : goal.loop-row-preserved
loop-row-preserved c =
    let d = c.args.tables.now in
    record {
      listed = ap (map (transfer_named (ids_of d file.Stops "stop_id") (ids_of d file.Routes "route_id") (ids_of d file.Trips "trip_id"))) c.in_ok-push.ensures.items
          ∙ listed_more c.loop-row.yielded c.in-Some.row c.in-Some.field-0-1 (transfer_named (ids_of d file.Stops "stop_id") (ids_of d file.Routes "route_id") (ids_of d file.Trips "trip_id")) (transfer_in d) c.loop-row.transfers.items c.transfer-transfer.result c.loop-row.invariant.listed c.transfer-transfer.ensures.value;
      within = ap (list_all (names_ends (ids_of d file.Stops "stop_id") (ids_of d file.Routes "route_id") (ids_of d file.Trips "trip_id"))) c.in_ok-push.ensures.items
          ∙ all_next (names_ends (ids_of d file.Stops "stop_id") (ids_of d file.Routes "route_id") (ids_of d file.Trips "trip_id")) c.loop-row.transfers.items c.transfer-transfer.result c.loop-row.invariant.within c.transfer-transfer.ensures.numbers;
      stops = c.transfer-transfer.ensures.stops ∙ c.loop-row.invariant.stops;
      routes = c.transfer-transfer.ensures.routes ∙ c.loop-row.invariant.routes;
      trips = c.transfer-transfer.ensures.trips ∙ c.loop-row.invariant.trips;
    }

pub returns-clause-rows : goal.returns-clause-rows
returns-clause-rows c =
    let d = c.args.tables.now in
    let from = c.into_iter-row-iterator.ensures.into_iter_gives ∙ c.rows-row-items.ensures in
    c.loop-row.invariant.listed ∙ ap (map (transfer_in d)) (all_taken d file.Transfers _ c.loop-row.yielded _ from c.loop-row.yielded_by c.in-None.ensures.steps.0)

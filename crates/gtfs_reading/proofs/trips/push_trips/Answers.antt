use Rattle.std.proofs.Common.{◌∙◌, ◌<◌, ◌≤◌, ap, arith, codes, length, map}
use Rattle.std.specs.List.{list_all}
use Rattle.gtfs_table.specs.declared.file.File.TheVariants as file
use Rattle.gtfs_schema.specs.steps.Ids.{rows_by_number}
use Rattle.gtfs_rows.specs.ContentRead.{trip_in}
use Rattle.gtfs_reading.specs.NamedTexts.{ids_of}
use Rattle.gtfs_rows.specs.NamedRows.{names_route_and_service, trip_named, without_rows}
use Rattle.gtfs_reading.specs.ServiceIds.{service_ids}
use Rattle.gtfs_reading.proofs.Fields.{all_next, listed_all, listed_next, numbered_row}
use Rattle.gtfs_reading.proofs.trips.push_trips.Goals as goal

pub trip-requires-clause-row : goal.trip-requires-clause-row
trip-requires-clause-row c =
    let below : c.loop-number.number < length (rows_by_number c.args.ids.now) = omega (arith, c.loop-number-test.true, c.loop-number.invariant.end) in
    numbered_row c.args.tables.now file.Trips (codes "trip_id") c.args.ids.now c.requires.ids c.loop-number.number c.row-row.result below c.row-row.ensures

pub loop-number-preserved : goal.loop-number-preserved
loop-number-preserved c =
    let d = c.args.tables.now in
    let ns = rows_by_number c.args.ids.now in
    let below : c.loop-number.number < length ns = omega (arith, c.loop-number-test.true, c.loop-number.invariant.end) in
    record {
      listed = ap (map (trip_named (ids_of d file.Routes "route_id") (service_ids d))) c.in_ok-push.ensures.items
          ∙ listed_next (trip_named (ids_of d file.Routes "route_id") (service_ids d)) (λ n. without_rows (trip_in d n)) ns c.loop-number.number c.loop-number.trips.items c.in_ok-trip.field-0 below c.loop-number.invariant.listed
          (c.in_ok-trip.ensures.value ∙ ap (λ n. without_rows (trip_in d n)) c.row-row.ensures);
      within = ap (list_all (names_route_and_service (ids_of d file.Routes "route_id") (service_ids d))) c.in_ok-push.ensures.items
          ∙ all_next (names_route_and_service (ids_of d file.Routes "route_id") (service_ids d)) c.loop-number.trips.items c.in_ok-trip.field-0 c.loop-number.invariant.within c.in_ok-trip.ensures.numbers;
      end = c.loop-number.invariant.end;
      finder = c.trip.ensures.same ∙ c.loop-number.invariant.finder;
    }

pub returns-clause-rows : goal.returns-clause-rows
returns-clause-rows c =
    let d = c.args.tables.now in
    let ns = rows_by_number c.args.ids.now in
    let whole : length ns ≤ c.loop-number.number = omega (arith, c.loop-number-test.false, c.loop-number.invariant.end) in
    listed_all (trip_named (ids_of d file.Routes "route_id") (service_ids d)) (λ n. without_rows (trip_in d n)) ns c.loop-number.number c.loop-number.trips.items whole c.loop-number.invariant.listed

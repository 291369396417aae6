use Rattle.std.proofs.Common.{◌∙◌, ◌<◌, ◌≤◌, ap, arith, codes, length, map}
use Rattle.std.specs.List.{list_all}
use Rattle.gtfs_table.specs.declared.file.File.TheVariants as file
use Rattle.gtfs_schema.specs.steps.Ids.{rows_by_number}
use Rattle.gtfs_rows.specs.ContentRead.{route_in}
use Rattle.gtfs_reading.specs.NamedTexts.{ids_of}
use Rattle.gtfs_rows.specs.NamedRows.{names_agency, route_named}
use Rattle.gtfs_reading.proofs.Fields.{all_next, listed_all, listed_next, numbered_row}
use Rattle.gtfs_reading.proofs.routes.push_routes.Goals as goal

pub route-requires-clause-row : goal.route-requires-clause-row
route-requires-clause-row c =
    let below : c.loop-number.number < length (rows_by_number c.args.ids.now) = omega (arith, c.loop-number-test.true, c.loop-number.invariant.end) in
    numbered_row c.args.tables.now file.Routes (codes "route_id") c.args.ids.now c.requires.ids c.loop-number.number c.row.result below c.row.ensures

pub loop-number-preserved : goal.loop-number-preserved
loop-number-preserved c =
    let d = c.args.tables.now in
    let ns = rows_by_number c.args.ids.now in
    let below : c.loop-number.number < length ns = omega (arith, c.loop-number-test.true, c.loop-number.invariant.end) in
    record {
      listed = ap (map (route_named (ids_of d file.Agency "agency_id"))) c.in_ok-push.ensures.items
          ∙ listed_next (route_named (ids_of d file.Agency "agency_id")) (route_in d) ns c.loop-number.number c.loop-number.routes.items c.in_ok-route.field-0 below c.loop-number.invariant.listed
          (c.in_ok-route.ensures.value ∙ ap (route_in d) c.row.ensures);
      within = ap (list_all (names_agency (ids_of d file.Agency "agency_id"))) c.in_ok-push.ensures.items
          ∙ all_next (names_agency (ids_of d file.Agency "agency_id")) c.loop-number.routes.items c.in_ok-route.field-0 c.loop-number.invariant.within c.in_ok-route.ensures.number;
      end = c.loop-number.invariant.end;
      finder = c.route.ensures.same ∙ c.loop-number.invariant.finder;
    }

pub returns-clause-rows : goal.returns-clause-rows
returns-clause-rows c =
    let d = c.args.tables.now in
    let ns = rows_by_number c.args.ids.now in
    let whole : length ns ≤ c.loop-number.number = omega (arith, c.loop-number-test.false, c.loop-number.invariant.end) in
    listed_all (route_named (ids_of d file.Agency "agency_id")) (route_in d) ns c.loop-number.number c.loop-number.routes.items whole c.loop-number.invariant.listed

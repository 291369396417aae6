use Rattle.std.proofs.Common.{◌∙◌, ◌<◌, ◌≤◌, ap, arith, codes, length, map}
use Rattle.std.specs.List.{list_all}
use Rattle.gtfs_table.specs.declared.file.File.TheVariants as file
use Rattle.gtfs_schema.specs.steps.Ids.{rows_by_number}
use Rattle.gtfs_rows.specs.ContentRead.{stop_in}
use Rattle.gtfs_reading.specs.NamedTexts.{ids_of}
use Rattle.gtfs_rows.specs.NamedRows.{names_parent, stop_named}
use Rattle.gtfs_reading.proofs.Fields.{all_next, listed_all, listed_next, numbered_row}
use Rattle.gtfs_reading.proofs.stops.push_stops.Goals as goal

pub stop-requires-clause-row : goal.stop-requires-clause-row
stop-requires-clause-row c =
    let below : c.loop-number.number < length (rows_by_number c.args.ids.now) = omega (arith, c.loop-number-test.true, c.loop-number.invariant.end) in
    numbered_row c.args.tables.now file.Stops (codes "stop_id") c.args.ids.now c.requires.ids c.loop-number.number c.row.result below c.row.ensures

pub loop-number-preserved : goal.loop-number-preserved
loop-number-preserved c =
    let d = c.args.tables.now in
    let ns = rows_by_number c.args.ids.now in
    let below : c.loop-number.number < length ns = omega (arith, c.loop-number-test.true, c.loop-number.invariant.end) in
    record {
      listed = ap (map (stop_named (ids_of d file.Stops "stop_id"))) c.in_ok-push.ensures.items
          ∙ listed_next (stop_named (ids_of d file.Stops "stop_id")) (stop_in d) ns c.loop-number.number c.loop-number.stops.items c.in_ok-stop.field-0 below c.loop-number.invariant.listed
          (c.in_ok-stop.ensures.value ∙ ap (stop_in d) c.row.ensures);
      within = ap (list_all (names_parent (ids_of d file.Stops "stop_id"))) c.in_ok-push.ensures.items
          ∙ all_next (names_parent (ids_of d file.Stops "stop_id")) c.loop-number.stops.items c.in_ok-stop.field-0 c.loop-number.invariant.within c.in_ok-stop.ensures.number;
      end = c.loop-number.invariant.end;
      finder = c.stop.ensures.same ∙ c.loop-number.invariant.finder;
    }

pub returns-clause-rows : goal.returns-clause-rows
returns-clause-rows c =
    let d = c.args.tables.now in
    let ns = rows_by_number c.args.ids.now in
    let whole : length ns ≤ c.loop-number.number = omega (arith, c.loop-number-test.false, c.loop-number.invariant.end) in
    listed_all (stop_named (ids_of d file.Stops "stop_id")) (stop_in d) ns c.loop-number.number c.loop-number.stops.items whole c.loop-number.invariant.listed

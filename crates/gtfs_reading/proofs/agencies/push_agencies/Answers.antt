use Rattle.std.proofs.Common.{◌∙◌, ◌<◌, ◌≤◌, ap, arith, length, map}
use Rattle.gtfs_schema.specs.steps.Ids.{rows_by_number}
use Rattle.gtfs_rows.specs.ContentRead.{agency_in}
use Rattle.gtfs_rows.specs.RowsInMemory.{agency_of}
use Rattle.gtfs_reading.proofs.Fields.{listed_all, listed_next}
use Rattle.gtfs_reading.proofs.agencies.push_agencies.Goals as goal

pub loop-number-preserved : goal.loop-number-preserved
loop-number-preserved c =
    let d = c.args.tables.now in
    let ns = rows_by_number c.args.ids.now in
    let below : c.loop-number.number < length ns = omega (arith, c.loop-number-test.true, c.loop-number.invariant.end) in
    record {
      listed = ap (map agency_of) c.in_ok-push.ensures.items
          ∙ listed_next agency_of (agency_in d) ns c.loop-number.number c.loop-number.agencies.items c.in_ok-agency.field-0 below c.loop-number.invariant.listed
          (c.in_ok-agency.ensures ∙ ap (agency_in d) c.row.ensures);
      end = c.loop-number.invariant.end;
    }

pub returns : goal.returns
returns c =
    let ns = rows_by_number c.args.ids.now in
    let whole : length ns ≤ c.loop-number.number = omega (arith, c.loop-number-test.false, c.loop-number.invariant.end) in
    listed_all agency_of (agency_in c.args.tables.now) ns c.loop-number.number c.loop-number.agencies.items whole c.loop-number.invariant.listed

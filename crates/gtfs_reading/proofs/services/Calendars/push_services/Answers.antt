use Rattle.std.proofs.Common.{◌∙◌, ◌<◌, ◌≤◌, [], ap, arith, length, map}
use Rattle.gtfs_rows.specs.ContentRead.{service_row_in}
use Rattle.gtfs_rows.specs.RowsInMemory.{service_of}
use Rattle.gtfs_reading.proofs.Fields.{listed_all, listed_next_of}
use Rattle.gtfs_reading.proofs.services.Calendars.push_services.Goals as goal

pub loop-number-preserved : goal.loop-number-preserved
loop-number-preserved c =
    let d = c.args.self.now in
    let ids = c.args.ids.now in
    let below : c.loop-number.number < length ids = omega (arith, c.loop-number-test.true, c.loop-number.invariant.end) in
    record {
      listed = ap (map service_of) c.in_ok-push.ensures.items
          ∙ listed_next_of service_of (service_row_in d) ids c.loop-number.number c.loop-number.services.items c.in_ok-service.field-0 [] below c.loop-number.invariant.listed
          (c.in_ok-service.ensures ∙ ap (service_row_in d) c.id.ensures);
      end = c.loop-number.invariant.end;
    }

pub returns : goal.returns
returns c =
    let ids = c.args.ids.now in
    let whole : length ids ≤ c.loop-number.number = omega (arith, c.loop-number-test.false, c.loop-number.invariant.end) in
    listed_all service_of (service_row_in c.args.self.now) ids c.loop-number.number c.loop-number.services.items whole c.loop-number.invariant.listed

use Rattle.std.proofs.lemmas.Result.{on_ok_weaker}
use Rattle.gtfs_trip_rules.proofs.trips.order.report_row.Goals as goal

pub returns : goal.returns
returns c = on_ok_weaker c.report_if-3.result (λ last. record {
  first = c.report_if.new.self;
  second = c.report_if-2.new.self;
  repeated = rw (c.problem-twice.ensures, c.repeats.ensures) at c.in_ok-report_if.ensures;
  untimed = rw c.problem-untimed.ensures at c.in_ok-report_if-2.ensures;
  late = rw (c.problem-back.ensures, c.is_late.ensures) at last;
}) c.report_if-3.ensures

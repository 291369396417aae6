use Rattle.std.proofs.Common.{reverse, take}
use Rattle.gtfs_table.specs.Tables.{Dataset}
use Rattle.gtfs_schema.specs.steps.FoundProblems.{Reports}
use Rattle.gtfs_trip_rules.specs.JudgedTrips.{Judges}
use Rattle.gtfs_trip_rules.specs.TripOrder.{rows_before, AreInOrder}
use Rattle.gtfs_trip_rules.proofs.TripReports.{seen}
use Rattle.gtfs_trip_rules.proofs.trips.order.report_rows.Given as goal

-- the rows so far
abbrev pub invariant-loop-at : goal.invariant-loop-at
invariant-loop-at l = record {
  judged : Judges l.judge (reverse (take l.at l.rows));
  reported : (d : Dataset) (o : AreInOrder d l.rows) → Reports d (seen (rows_before o.name l.rows l.at)) l.fn.found l.found;
}

use Rattle.std.proofs.Common.{◌≡◌, ℕ, List}
use Rattle.std.specs.Prelude.{codes}
use Rattle.gtfs_table.specs.Rows.{numbers}
use Rattle.gtfs_table.specs.declared.file.File.TheVariants as file
use Rattle.gtfs_schema.specs.declared.code.Code.TheVariants as code
use Rattle.gtfs_schema.specs.steps.FoundProblems.{Reports}
use Rattle.gtfs_schema.specs.steps.KeptColumns.{at_column}
use Rattle.gtfs_schema.proofs.RowFacts.{at_rows}
use Rattle.gtfs_trip_rules.specs.CoveredTrips.{AreOfTrips, covers_trip}
use Rattle.gtfs_trip_rules.specs.FrequencyPeriods.{met_among}
use Rattle.gtfs_trip_rules.proofs.periods.report_overlaps.Given as goal

-- what is reported and what is covered, of the rows so far
abbrev pub invariant-loop-row : goal.invariant-loop-row
invariant-loop-row l = record {
  reported : Reports l.tables (at_rows (at_column code.E19 file.Frequencies (codes "start_time")) (numbers l.yielded)) l.fn.found l.found;
  known : (trip : List ℕ) (start end : ℕ) → covers_trip l.trips.numbers l.covered.spans trip start end ≡ met_among l.tables (numbers l.yielded) trip start end;
  of_trips : AreOfTrips l.trips.numbers l.covered.spans;
}

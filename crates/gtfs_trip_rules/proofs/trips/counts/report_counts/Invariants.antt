use Rattle.std.proofs.Common.{◌≡◌, ℕ, List}
use Rattle.std.specs.Prelude.{codes, nat_lt}
use Rattle.gtfs_schema.specs.steps.Ids.{ids_of}
use Rattle.gtfs_trip_rules.specs.TripCounts.{are_few}
use Rattle.gtfs_trip_rules.specs.TripNotes.{times_noted}
use Rattle.gtfs_table.specs.Rows.{numbers}
use Rattle.gtfs_table.specs.declared.file.File.TheVariants as file
use Rattle.gtfs_schema.specs.declared.code.Code.TheVariants as code
use Rattle.gtfs_schema.specs.steps.FoundProblems.{Reports}
use Rattle.gtfs_schema.specs.steps.KeptColumns.{at_column}
use Rattle.gtfs_schema.proofs.RowFacts.{at_rows}
use Rattle.gtfs_trip_rules.proofs.trips.counts.report_counts.Given as goal

-- the rows so far, and what is counted
abbrev pub invariant-loop-row : goal.invariant-loop-row
invariant-loop-row l = record {
  reported : Reports l.tables (at_rows (at_column code.W06 file.Trips (codes "trip_id")) (numbers l.yielded)) l.fn.found l.found;
  few : (trip : List ℕ) → are_few (ids_of l.counts.trips.ids.now) l.counts.numbers.now l.counts.counts.now trip ≡ nat_lt (times_noted l.notes.notes trip) 2;
}

use Rattle.std.proofs.Common.{◌≡◌}
use Rattle.std.specs.List.{filter_map}
use Rattle.std.specs.Prelude.{codes}
use Rattle.gtfs_table.specs.declared.file.File.TheVariants as file
use Rattle.gtfs_schema.specs.IdNumbers.{ids_by_bytes}
use Rattle.gtfs_trip_rules.specs.KeptRows.{AllKeep}
use Rattle.gtfs_table.specs.Rows.{numbers}
use Rattle.gtfs_schema.specs.steps.FoundProblems.{Reports}
use Rattle.gtfs_trip_rules.specs.StopTimePicks.{in_rows}
use Rattle.gtfs_trip_rules.specs.StopTimes.{AreNamedRows}
use Rattle.gtfs_schema.proofs.RowFacts.{at_rows}
use Rattle.gtfs_trip_rules.specs.TripTexts.{note_read}
use Rattle.gtfs_trip_rules.proofs.EarlierRows.{StandBefore}
use Rattle.gtfs_trip_rules.proofs.stop_times.read_rows.Given as goal

-- what is named, and of the rows so far what was reported and what they say of their trips
abbrev pub invariant-loop-row : goal.invariant-loop-row
invariant-loop-row l = record {
  named : AreNamedRows l.tables l.named;
  reported : Reports l.tables (at_rows in_rows (numbers l.yielded)) l.fn.found l.found;
  trips : l.notes.trips ≡ ids_by_bytes l.tables file.Trips (codes "trip_id");
  notes : l.notes.notes ≡ filter_map (note_read l.tables) (numbers l.yielded);
  kept : AllKeep l.tables l.notes.rows;
  earlier : StandBefore l.yielded l.notes.rows;
}

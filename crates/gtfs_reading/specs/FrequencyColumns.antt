-- The columns of frequencies.txt, found in its header, and its rows by trip.
use Rattle.std.specs.Prelude.{◌≡◌, ℕ, List, codes}
use Rattle.gtfs_table.specs.declared.file.File.TheVariants as file
use Rattle.gtfs_trip_rules.specs.RowsById.{rows_of}
use Rattle.gtfs_reading.specs.CalendarRows.{rows_with}
use Rattle.gtfs_reading.specs.ColumnIndices.{column_indices}
use Rattle.gtfs_reading.specs.declared.frequencies.FrequencyFile.TheInside as inside

pub record AreFrequencyColumns (f : inside.Inside) : Type 0 where
  pub columns : f.columns ≡ column_indices f.tables.now file.Frequencies
  pub rows : (id : List ℕ) → rows_of f.rows id ≡ rows_with f.tables.now file.Frequencies (codes "trip_id") id

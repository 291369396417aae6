-- Both calendar files with their columns found, and their rows by service.
use Rattle.std.specs.Prelude.{◌≡◌, ℕ, List, bytes_eq, codes, filter}
use Rattle.gtfs_table.specs.Rows.{rows}
use Rattle.gtfs_table.specs.Tables.{Dataset}
use Rattle.gtfs_table.specs.declared.file.File.{File}
use Rattle.gtfs_table.specs.declared.file.File.TheVariants as file
use Rattle.gtfs_schema.specs.RowConditions.{text_in}
use Rattle.gtfs_trip_rules.specs.RowsById.{rows_of}
use Rattle.gtfs_reading.specs.ColumnIndices.{column_indices}
use Rattle.gtfs_reading.specs.declared.services.Calendars.TheInside as inside

-- the rows of a file with an id under this column
abbrev pub rows_with : Dataset → File → List ℕ → List ℕ → List ℕ
rows_with d x column id = filter (λ n. bytes_eq (text_in d x n column) id) (rows d x)

pub record AreCalendars (c : inside.Inside) : Type 0 where
  pub week_columns : c.week_columns ≡ column_indices c.tables.now file.Calendar
  pub date_columns : c.date_columns ≡ column_indices c.tables.now file.CalendarDates
  pub week_rows : (id : List ℕ) → rows_of c.week_rows id ≡ rows_with c.tables.now file.Calendar (codes "service_id") id
  pub date_rows : (id : List ℕ) → rows_of c.date_rows id ≡ rows_with c.tables.now file.CalendarDates (codes "service_id") id

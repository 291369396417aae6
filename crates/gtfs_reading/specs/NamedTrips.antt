-- The frequencies of trips, trip after trip, and where those of each trip begin.
use Rattle.std.specs.Prelude.{◌≡◌, ℕ, Bool, true, false, List, Option, Some, None, codes, length, map, slice_index_or, slice_set}
use Rattle.std.specs.List.{All}
use Rattle.gtfs_table.specs.Rows.{rows}
use Rattle.gtfs_table.specs.declared.file.File.TheVariants as file
use Rattle.gtfs_schema.specs.RowConditions.{text_in}
use Rattle.gtfs_table.specs.FieldOffsets.{parts}
use Rattle.gtfs_table.specs.Tables.{Dataset}
use Rattle.gtfs_schema.specs.steps.Ids.{FirstRows, ids_of, number_with, rows_by_number}
use Rattle.gtfs_rows.specs.declared.frequency.Frequency.{Frequency}
use Rattle.gtfs_rows.specs.ContentRead.{trip_in}
use Rattle.gtfs_rows.specs.RowsInMemory.{frequency_of}
use Rattle.gtfs_reading.specs.CutStopTimes.{IsCutInto}

pub record AreByTrip (d : Dataset) (trips : FirstRows) (starts : List ℕ) (periods : List Frequency) : Type 0 where
  pub rows : map (map frequency_of) (parts starts periods) ≡ map (λ n. (trip_in d n).frequencies) (rows_by_number trips)
  pub cut : IsCutInto (length (ids_of trips)) starts periods

-- ---- trips that rows name

-- marks with that of one more number, where it lies within
abbrev pub with_mark : List Bool → Option ℕ → List Bool
with_mark marks None = marks
with_mark marks (Some n) = slice_set marks n true

-- there is no number, or it is marked
abbrev pub is_marked : List Bool → Option ℕ → Bool
is_marked marks None = true
is_marked marks (Some n) = slice_index_or marks n false

-- the number of the trip that a row names
abbrev pub named_trip : Dataset → FirstRows → ℕ → Option ℕ
named_trip d trips n = number_with trips (text_in d file.Frequencies n (codes "trip_id"))

-- one mark for each trip, which each trip has that a row names
pub record AreNamedTrips (d : Dataset) (trips : FirstRows) (marks : List Bool) : Type 0 where
  pub count : length marks ≡ length (ids_of trips)
  pub marked : All (λ n. is_marked marks (named_trip d trips n) ≡ true) (rows d file.Frequencies)

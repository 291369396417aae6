-- Stop times that are given the numbers of their headsigns, one after the other.
use Rattle.std.specs.Prelude.{◌≡◌, ◌<◌, ◌≤◌, ◌-◌, ℕ, List, Option, None, drop, length, map, nat_eq, slice_index_or, take}
use Rattle.std.specs.List.{All, IsDistinct, range_with_len}
use Rattle.gtfs_stop_times.specs.declared.by_trip.RowRange.{RowRange}
use Rattle.gtfs_stop_times.specs.declared.stop_row.StopRow.{StopRow}
use Rattle.gtfs_stop_times.specs.KeptLists.{no_row, stop_times_at}
use Rattle.gtfs_stop_times.specs.declared.row_note.RowNote.{RowNote}
use Rattle.gtfs_stop_times.specs.declared.stop_time.StopTime.{StopTime}

-- the stop times that are left, and the rows of those that were given theirs
pub record Headsigned : Type 0 where
  pub left : List StopTime
  pub rows : List StopRow

-- the row, with the headsign of this number
abbrev pub with_headsign : StopRow → Option ℕ → StopRow
with_headsign row headsign = record row { stop_headsign = headsign }

-- the row of a stop time, with the headsign of this number
abbrev pub with_headsign_at : StopTime → Option ℕ → StopRow
with_headsign_at s headsign = with_headsign s.stop_row headsign

-- ---- by the numbers of rows

-- the rows of these numbers
abbrev pub rows_at : List StopRow → List ℕ → List StopRow
rows_at rows order = map (λ n. slice_index_or rows n no_row) order

-- the numbers of the rows of a range
abbrev pub numbers_in : RowRange → List ℕ
numbers_in range = range_with_len range.start (range.end - range.start)

-- those of these numbers, of which the first so many were given theirs
abbrev pub headsigned_at : List StopRow → List RowNote → List ℕ → ℕ → Headsigned
headsigned_at rows notes order given = record { left = stop_times_at rows notes (drop given order); rows = rows_at rows (take given order) }

-- each number is that of a row, none stands twice, and the rows after the first so many have no headsign
pub record AreGiven (rows : List StopRow) (notes : List RowNote) (order : List ℕ) (len given : ℕ) : Type 0 where
  pub all : length order ≡ len
  pub few : given ≤ len
  pub in_rows : All (λ n. n < length rows) order
  pub in_notes : All (λ n. n < length notes) (drop given order)
  pub once : IsDistinct nat_eq order
  pub none_left : (k : ℕ) → given ≤ k → k < length order → (slice_index_or rows (slice_index_or order k 0) no_row).stop_headsign ≡ None

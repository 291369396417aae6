-- Stop times as they are kept: the rows of the file by their numbers, what is noted of each, and the numbers of those that are stop times.
use Rattle.std.specs.Prelude.{◌≡◌, ◌<◌, ◌⊎◌, ℕ, List, length, map, slice_index_or, None}
use Rattle.std.specs.List.{All}
use Rattle.gtfs_stop_times.specs.declared.stop_time_choices.DropOffType.TheVariants as drop_off
use Rattle.gtfs_stop_times.specs.declared.stop_time_choices.PickupType.TheVariants as pickup
use Rattle.gtfs_stop_times.specs.declared.stop_row.StopRow.{StopRow}
use Rattle.gtfs_stop_times.specs.declared.row_note.RowNote.{RowNote}
use Rattle.gtfs_stop_times.specs.declared.stop_time.StopTime.{StopTime}
use Rattle.gtfs_stop_times.specs.RowNotes.{noted}

-- what stands where a list has nothing
abbrev pub no_row : StopRow
no_row = record {
  stop_id = record { 0 = 0 };
  arrival_time = None;
  departure_time = None;
  stop_sequence = 0;
  stop_headsign = None;
  pickup_type = pickup.Regular;
  drop_off_type = drop_off.Regular;
  timepoint = None;
}

-- its row has no sequence
abbrev pub no_note : RowNote
no_note = record { packed = 4 }

-- a row with what is noted of it
abbrev pub noted_row : ℕ → StopRow → RowNote → StopTime
noted_row n row note = record {
  trip = (noted note).trip;
  row = n;
  has_headsign = (noted note).has_headsign;
  times = (noted note).times;
  stop_row = row;
}

-- the stop time of a row
abbrev pub stop_time_at : List StopRow → List RowNote → ℕ → StopTime
stop_time_at rows notes n = noted_row n (slice_index_or rows n no_row) (slice_index_or notes n no_note)

abbrev pub stop_times_at : List StopRow → List RowNote → List ℕ → List StopTime
stop_times_at rows notes order = map (stop_time_at rows notes) order

-- it has no headsign yet: what a check keeps of a row leaves it out
abbrev pub HasNoHeadsign : StopRow → Type 0
HasNoHeadsign r = r.stop_headsign ≡ None

-- each number is that of a row
pub record AreListed (rows : List StopRow) (notes : List RowNote) (order : List ℕ) : Type 0 where
  pub in_rows : All (λ n. n < length rows) order
  pub in_notes : All (λ n. n < length notes) order
  pub unnamed : All HasNoHeadsign rows

-- the items before an index stay
pub record KeepsBefore {X : Type 0} (at : ℕ) (old new : List X) : Type 0 where
  pub same : (n : ℕ) (z : X) → n < at → n < length old → slice_index_or new n z ≡ slice_index_or old n z
  pub there : (n : ℕ) → n < at → n < length old → n < length new

-- each item is the one that was there, or this one
abbrev pub HoldsOldOr : {X : Type 0} → X → List X → List X → Type 0
HoldsOldOr {X} item old new = (n : ℕ) (z : X) → n < length new → ((n < length old) × (slice_index_or new n z ≡ slice_index_or old n z)) ⊎ (slice_index_or new n z ≡ item)

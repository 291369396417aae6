-- Stretches of rows: rows of one trip that stand together, and ascend by their sequences.
use Rattle.std.specs.Prelude.{◌≡◌, ◌+◌, ◌-◌, ◌<◌, ◌&&◌, ℕ, Bool, true, false, List, [], ◌∷◌, drop, length, take, nat_le, slice_index_or, IsPermutation}
use Rattle.std.specs.List.{All}
use Rattle.std.specs.List.Sorted.{IsSorted}
use Rattle.std.specs.Ordering.{is_lt}
use Rattle.gtfs_stop_times.specs.declared.stop_row.StopRow.{StopRow}
use Rattle.gtfs_stop_times.specs.KeptLists.{stop_time_at, stop_times_at}
use Rattle.gtfs_stop_times.specs.StopTimeOrder.{kept_cmp}
use Rattle.gtfs_stop_times.specs.declared.row_note.RowNote.{RowNote}
use Rattle.gtfs_stop_times.specs.declared.stop_time.StopTime.{StopTime}
use Rattle.gtfs_stop_times.specs.declared.together.Stretch.{Stretch}

-- no row stands below one of the same trip that comes right before it
abbrev pub AreRising : List StopTime → Type 0
AreRising rows = (k : ℕ) (d : StopTime) → k + 1 < length rows → (slice_index_or rows (k + 1) d).trip ≡ (slice_index_or rows k d).trip
    → is_lt (kept_cmp (slice_index_or rows (k + 1) d) (slice_index_or rows k d)) ≡ false

-- the numbers of a stretch of this order
abbrev pub numbers_of : List ℕ → Stretch → List ℕ
numbers_of order s = take (s.end - s.start) (drop s.start order)

module _ (rows : List StopRow) (notes : List RowNote) where
  pub record IsStretch (order : List ℕ) (s : Stretch) : Type 0 where
    pub trip : All (λ n. (stop_time_at rows notes n).trip ≡ s.trip) (numbers_of order s)
    pub sorted : IsSorted kept_cmp (stop_times_at rows notes (numbers_of order s))

  -- the same rows, in their order where those of each trip stand together
  pub record AreByTrips (old new : List ℕ) : Type 0 where
    pub moved : IsPermutation old new
    pub sorted : AreRising (stop_times_at rows notes old) → IsSorted kept_cmp (stop_times_at rows notes new)

-- trips ascend, from this number on
abbrev pub ascend_from : ℕ → List Stretch → Bool
ascend_from least [] = true
ascend_from least (s ∷ stretches) = nat_le least s.trip && ascend_from (s.trip + 1) stretches

-- Lists of stop times as they are kept: one more, those of some rows, and the same in another order.
use Rattle.std.proofs.Common.{◌≡◌, ◌<◌, ◌∙◌, ◌++◌, ◌∷◌, [], ℕ, List, Some, ap, arith, filter, get_or, inl, inr, length, map, refl, subst, sym}
use Rattle.std.specs.Prelude.{option_map, slice_get, IsPermutation}
use Rattle.std.specs.List.{All}
use Rattle.std.proofs.lemmas.Bool.{cases_Bool}
use Rattle.std.proofs.lemmas.List.{get_or-map, get_or_default, length-map, map_push}
use Rattle.std.proofs.lemmas.List.Elements.{All-filter, All-push, All-tail}
use Rattle.std.proofs.lemmas.List.Sorted.{All-permutation, IsPermutation-map}
use Rattle.std.proofs.lemmas.Option.{slice_get-get_or, slice_get-map}
use Rattle.gtfs_stop_times.specs.declared.stop_row.StopRow.{StopRow}
use Rattle.gtfs_stop_times.specs.KeptLists.{no_note, no_row, noted_row, stop_time_at, stop_times_at, AreListed, HasNoHeadsign, HoldsOldOr, KeepsBefore}
use Rattle.gtfs_stop_times.specs.RowNotes.{noted}
use Rattle.gtfs_stop_times.specs.KeptTimes.{is_placed}
use Rattle.gtfs_stop_times.specs.StopTimeOrder.{AreEarlier}
use Rattle.gtfs_stop_times.specs.declared.row_note.RowNote.{RowNote}
use Rattle.gtfs_stop_times.specs.declared.stop_time.StopTime.{StopTime}

-- a function that another one equals at each element
pub map_alike : {X Y : Type 0} (f g : X → Y) (xs : List X) → All (λ x. f x ≡ g x) xs → map f xs ≡ map g xs
map_alike f g [] same = refl
map_alike f g (x ∷ xs) same = λ i. same 0 x (omega arith) i ∷ map_alike f g xs (All-tail (λ x. f x ≡ g x) x xs same) i

module _ (rows : List StopRow) (notes : List RowNote) where
  abbrev stop_time : ℕ → StopTime
  stop_time = stop_time_at rows notes

  -- the numbers of rows before one
  pub numbers_before : (order : List ℕ) (at : ℕ) → AreEarlier at (stop_times_at rows notes order) → All (λ n. n < at) order
  numbers_before order at each k z below =
      subst (λ r. r.row < at) (get_or-map stop_time order k z (stop_time z) below) (each k (stop_time z) (omega (arith, below, length-map order stop_time)))

  module _ (order : List ℕ) (listed : AreListed rows notes order) where
    -- the stop time at an index
    pub stop_time_here : (at n : ℕ) (row : StopRow) (note : RowNote) → at < length order → n ≡ get_or order at n → row ≡ get_or rows n row → note ≡ get_or notes n note
        → slice_get (stop_times_at rows notes order) at ≡ Some (noted_row n row note)
    stop_time_here at n row note below is row_is note_is =
        let of_rows : n < length rows = subst (λ m. m < length rows) (sym is) (listed.in_rows at n below) in
        let of_notes : n < length notes = subst (λ m. m < length notes) (sym is) (listed.in_notes at n below) in
        slice_get-map stop_time order at
        ∙ ap (option_map stop_time) (slice_get-get_or order at n below ∙ ap (λ m. Some m) (sym is))
        ∙ (λ i. Some (noted_row n (sym (row_is ∙ get_or_default rows n row no_row of_rows) i) (sym (note_is ∙ get_or_default notes n note no_note of_notes) i)))

    -- those of rows with a sequence
    pub placed_listed : AreListed rows notes (filter (λ n. is_placed (noted (get_or notes n no_note)).times) order)
    placed_listed = record {
      in_rows = All-filter (λ n. is_placed (noted (get_or notes n no_note)).times) (λ n. n < length rows) order listed.in_rows;
      in_notes = All-filter (λ n. is_placed (noted (get_or notes n no_note)).times) (λ n. n < length notes) order listed.in_notes;
      unnamed = listed.unnamed;
    }

    -- in another order
    pub moved_listed : (new : List ℕ) → IsPermutation order new → AreListed rows notes new
    moved_listed new moved = record {
      in_rows = All-permutation (λ n. n < length rows) order new moved listed.in_rows;
      in_notes = All-permutation (λ n. n < length notes) order new moved listed.in_notes;
      unnamed = listed.unnamed;
    }

  pub moved_rows : (order new : List ℕ) → IsPermutation order new → IsPermutation (stop_times_at rows notes order) (stop_times_at rows notes new)
  moved_rows order new moved = IsPermutation-map stop_time order new moved

  pub placed_rows : (order : List ℕ) → stop_times_at rows notes (filter (λ n. is_placed (noted (get_or notes n no_note)).times) order) ≡ filter (λ r. is_placed r.times) (stop_times_at rows notes order)
  placed_rows [] = refl
  placed_rows (n ∷ order) = elim (cases_Bool (is_placed (noted (get_or notes n no_note)).times)) [
    | inl has ↦ rw (has, placed_rows order) refl
    | inr none ↦ rw (none, placed_rows order) refl
  ]

-- ---- after rows were put at an index

pub kept_itself : {X : Type 0} (at : ℕ) (xs : List X) → KeepsBefore at xs xs
kept_itself at xs = record { same = λ n z low within. refl; there = λ n low within. within }

pub still_unnamed : (item : StopRow) (old new : List StopRow) → HoldsOldOr item old new → HasNoHeadsign item → All HasNoHeadsign old → All HasNoHeadsign new
still_unnamed item old new held none all k d within = elim (held k d within) [
  | inl is ↦ subst HasNoHeadsign (sym is.1) (all k d is.0)
  | inr is ↦ subst HasNoHeadsign (sym is) none
]

module _ (rows more_rows : List StopRow) (notes more_notes : List RowNote) (at : ℕ) (order : List ℕ) (listed : AreListed rows notes order)
    (earlier : AreEarlier at (stop_times_at rows notes order)) (kept_rows : KeepsBefore at rows more_rows) (kept_notes : KeepsBefore at notes more_notes) where
  before : All (λ n. n < at) order
  before = numbers_before rows notes order at earlier

  pub still_listed : All HasNoHeadsign more_rows → AreListed more_rows more_notes order
  still_listed unnamed = record {
    in_rows = λ k z below. kept_rows.there (get_or order k z) (before k z below) (listed.in_rows k z below);
    in_notes = λ k z below. kept_notes.there (get_or order k z) (before k z below) (listed.in_notes k z below);
    unnamed = unnamed;
  }

  pub still_same : stop_times_at more_rows more_notes order ≡ stop_times_at rows notes order
  still_same = map_alike (stop_time_at more_rows more_notes) (stop_time_at rows notes) order
      (λ k z below. let n = get_or order k z in
      λ i. noted_row n (kept_rows.same n no_row (before k z below) (listed.in_rows k z below) i) (kept_notes.same n no_note (before k z below) (listed.in_notes k z below) i))

  pub listed_more : All HasNoHeadsign more_rows → at < length more_rows → at < length more_notes → AreListed more_rows more_notes (order ++ at ∷ [])
  listed_more unnamed of_rows of_notes = record {
    in_rows = All-push (λ n. n < length more_rows) order at (still_listed unnamed).in_rows of_rows;
    in_notes = All-push (λ n. n < length more_notes) order at (still_listed unnamed).in_notes of_notes;
    unnamed = unnamed;
  }

  pub one_more : (row : StopRow) (note : RowNote) → get_or more_rows at no_row ≡ row → get_or more_notes at no_note ≡ note
      → stop_times_at more_rows more_notes (order ++ at ∷ []) ≡ stop_times_at rows notes order ++ noted_row at row note ∷ []
  one_more row note row_is note_is =
      map_push (stop_time_at more_rows more_notes) order at
      ∙ (λ i. still_same i ++ noted_row at (row_is i) (note_is i) ∷ [])

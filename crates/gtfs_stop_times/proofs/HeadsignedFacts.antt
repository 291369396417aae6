-- Stop times that are given their headsigns.
use Rattle.std.proofs.Common.{◌≡◌, ◌<◌, ◌≤◌, ◌+◌, ◌++◌, ◌∷◌, ◌∙◌, [], ℕ, List, drop, length, map, take, get_or, Option, None, Some, refl, sym, ap, subst, arith, inl, inr}
use Rattle.std.specs.Prelude.{nat_eq, slice_get, slice_set as set}
use Rattle.std.specs.List.{All}
use Rattle.std.proofs.lemmas.Bool.{cases_lt, eqb-false}
use Rattle.std.proofs.lemmas.List.{drop_more, get_or-drop, get_or-set_other, get_or-set_same, get_or-take, get_or_default, length-drop, length-map, length-set, length-take-le, map_more, nil_from_length, take_all}
use Rattle.std.proofs.lemmas.Map.Keys.{apart_from_distinct}
use Rattle.csv.specs.Records.{Rising}
use Rattle.gtfs_stop_times.specs.StopTimesByTrip.{AreWithin, in_turn, rows_in}
use Rattle.gtfs_stop_times.specs.declared.by_trip.RowRange.{RowRange}
use Rattle.gtfs_stop_times.specs.declared.stop_row.StopRow.{StopRow}
use Rattle.gtfs_table.specs.FieldOffsets.{parts}
use Rattle.gtfs_stop_times.specs.HeadsignedRows.{AreGiven, Headsigned, headsigned_at, numbers_in, rows_at, with_headsign, with_headsign_at}
use Rattle.gtfs_stop_times.specs.KeptLists.{no_note, no_row, noted_row, stop_time_at, stop_times_at}
use Rattle.gtfs_stop_times.specs.declared.row_note.RowNote.{RowNote}
use Rattle.gtfs_stop_times.proofs.ByTripFacts.{ranges-rows, ranges-starts}
use Rattle.gtfs_stop_times.proofs.KeptListFacts.{map_alike}

-- ---- none is given

pub own-numbers : (rows : List StopRow) (notes : List RowNote) (order : List ℕ) → map (λ s. s.row) (stop_times_at rows notes order) ≡ order
own-numbers rows notes [] = refl
own-numbers rows notes (n ∷ ns) = ap (λ ms. n ∷ ms) (own-numbers rows notes ns)

-- ---- one more

module _ (rows : List StopRow) (notes : List RowNote) (order : List ℕ) (len given : ℕ) (are : AreGiven rows notes order len given) (more : 0 < length (stop_times_at rows notes (drop given order))) where
  pub within : given < length order
  within = omega (arith, more, length-map (drop given order) (stop_time_at rows notes), length-drop given order)

  pub few-more : given + 1 ≤ len
  few-more = omega (arith, within, are.all)

  module _ (n : ℕ) (here : get_or order given 0 ≡ n) where
    -- it comes first of those that are left
    pub left-is : stop_times_at rows notes (drop given order) ≡ stop_time_at rows notes n ∷ stop_times_at rows notes (drop (given + 1) order)
    left-is =
        ap (stop_times_at rows notes) (drop_more order given 0 within)
        ∙ ap (λ m. stop_time_at rows notes m ∷ stop_times_at rows notes (drop (given + 1) order)) here

    pub in-rows : n < length rows
    in-rows = subst (λ m. m < length rows) here (are.in_rows given 0 within)

    pub in-notes : n < length notes
    in-notes = subst (λ m. m < length notes) (sym (ap (λ ns. get_or ns 0 0) (sym (drop_more order given 0 within))) ∙ here)
        (are.in_notes 0 0 (omega (arith, within, length-drop given order)))

    pub unnamed-next : (get_or rows n no_row).stop_headsign ≡ None
    unnamed-next = ap (λ m. (get_or rows m no_row).stop_headsign) (sym here) ∙ are.none_left given (omega arith) within

    pub peeked : (row : StopRow) (note : RowNote) → row ≡ get_or rows n row → note ≡ get_or notes n note
        → slice_get (stop_times_at rows notes (drop given order)) 0 ≡ Some (noted_row n row note)
    peeked row note row_is note_is =
        let of_row : get_or rows n no_row ≡ row = get_or_default rows n no_row row in-rows ∙ sym row_is in
        let of_note : get_or notes n no_note ≡ note = get_or_default notes n no_note note in-notes ∙ sym note_is in
        ap (λ ss. slice_get ss 0) left-is ∙ (λ i. Some (noted_row n (of_row i) (of_note i)))

    module _ (h : Option ℕ) where
      abbrev row : StopRow
      row = with_headsign (get_or rows n no_row) h

      abbrev after : List StopRow
      after = set rows n row

      apart : (k z : ℕ) → k < length order → (k ≡ given → ⊥) → get_or after (get_or order k z) no_row ≡ get_or rows (get_or order k z) no_row
      apart k z high other = get_or-set_other rows n (get_or order k z) row no_row (λ same. other-number (same ∙ sym here))
        where
          other-number : get_or order k z ≡ get_or order given 0 → ⊥
          other-number same = elim (cases_lt k given) [
            | inl before ↦ eqb-false (get_or order k 0) (get_or order given 0) (apart_from_distinct nat_eq order k given 0 are.once before within) (sym (get_or_default order k z 0 high) ∙ same)
            | inr from ↦
                let beyond : given < k = omega (arith, from, other) in
                eqb-false (get_or order given 0) (get_or order k 0) (apart_from_distinct nat_eq order given k 0 are.once beyond high) (sym same ∙ get_or_default order k z 0 high)
          ]

      pub given-more : AreGiven after notes order len (given + 1)
      given-more = record {
        all = are.all;
        few = few-more;
        in_rows = subst (λ m. All (λ n. n < m) order) (sym (length-set rows n row)) are.in_rows;
        in_notes = λ k z low.
            let below : given + 1 + k < length order = omega (arith, low, length-drop (given + 1) order) in
            let left : k + 1 < length (drop given order) = omega (arith, below, length-drop given order) in
            let is : get_or (drop given order) (k + 1) z ≡ get_or (drop (given + 1) order) k z =
            get_or-drop given order (k + 1) z ∙ ap (λ i. get_or order i z) (omega arith) ∙ sym (get_or-drop (given + 1) order k z) in
            subst (λ m. m < length notes) is (are.in_notes (k + 1) z left);
        once = are.once;
        none_left = λ k low high.
            ap (λ (r : StopRow). r.stop_headsign) (apart k 0 high (λ same. omega (arith, same, low))) ∙ are.none_left k (omega (arith, low)) high;
      }

      -- those that are left stay as they are
      pub left-more : stop_times_at after notes (drop (given + 1) order) ≡ stop_times_at rows notes (drop (given + 1) order)
      left-more = map_alike (stop_time_at after notes) (stop_time_at rows notes) (drop (given + 1) order) (λ k z low.
          let below : given + 1 + k < length order = omega (arith, low, length-drop (given + 1) order) in
          subst (λ m. stop_time_at after notes m ≡ stop_time_at rows notes m) (sym (get_or-drop (given + 1) order k z))
          (ap (λ r. noted_row (get_or order (given + 1 + k) z) r (get_or notes (get_or order (given + 1 + k) z) no_note))
          (apart (given + 1 + k) z below (λ same. omega (arith, same)))))

      earlier : rows_at after (take given order) ≡ rows_at rows (take given order)
      earlier = map_alike (λ m. get_or after m no_row) (λ m. get_or rows m no_row) (take given order) (λ k z low.
          let below : k < given = omega (arith, low, length-take-le given order (omega (arith, within))) in
          subst (λ m. get_or after m no_row ≡ get_or rows m no_row) (sym (get_or-take given order k z below))
          (apart k z (omega (arith, below, within)) (λ same. omega (arith, same, below))))

      pub rows-more : rows_at after (take (given + 1) order) ≡ rows_at rows (take given order) ++ map (λ s. with_headsign_at s h) (take 1 (stop_times_at rows notes (drop given order)))
      rows-more =
          let last : get_or after (get_or order given 0) no_row ≡ row = ap (λ m. get_or after m no_row) here ∙ get_or-set_same rows n row no_row in-rows in
          map_more (λ m. get_or after m no_row) order given 0 within
          ∙ (λ i. earlier i ++ last i ∷ [])
          ∙ ap (λ ss. rows_at rows (take given order) ++ map (λ s. with_headsign_at s h) (take 1 ss)) (sym left-is)

-- ---- all are given

module _ (rows : List StopRow) (notes : List RowNote) (order : List ℕ) (given : ℕ) (h : Headsigned) (is : headsigned_at rows notes order given ≡ h) (none : h.left ≡ []) where
  none-after : drop given order ≡ []
  none-after =
      nil_from_length (drop given order) (sym (length-map (drop given order) (stop_time_at rows notes)) ∙ ap (λ (x : Headsigned). length x.left) is ∙ ap length none)

  -- the rows that were given theirs are all
  pub whole : rows_at rows order ≡ h.rows
  whole =
      let count = ap length none-after in
      ap (rows_at rows) (sym (take_all given order (omega (arith, count, length-drop given order)))) ∙ ap (λ (x : Headsigned). x.rows) is

  -- what is noted of them is not asked for
  module _ (others : List RowNote) where
    pub seen-so : headsigned_at rows others order given ≡ h
    seen-so = (λ i. record { left = same i; rows = rows_at rows (take given order) }) ∙ is
      where
        same : stop_times_at rows others (drop given order) ≡ stop_times_at rows notes (drop given order)
        same = ap (stop_times_at rows others) none-after ∙ sym (ap (stop_times_at rows notes) none-after)

    pub given-so : (len : ℕ) → AreGiven rows notes order len given → AreGiven rows others order len given
    given-so len are = record {
      all = are.all;
      few = are.few;
      in_rows = are.in_rows;
      in_notes = λ k z low. let count = ap length none-after in absurd (omega (arith, low, count));
      once = are.once;
      none_left = are.none_left;
    }

-- ranges have these rows, of which those of each trip begin at one of these starts
pub record HaveRows (list : List StopRow) (order from : List ℕ) (ranges : List RowRange) : Type 0 where
  pub within : AreWithin (length list) ranges
  pub len : length (in_turn (map (rows_in list) ranges)).rows ≡ length order
  pub rows : (in_turn (map (rows_in list) ranges)).rows ≡ rows_at list order
  pub starts : (in_turn (map (rows_in list) ranges)).starts ≡ from

pub in-ranges : (rows : List StopRow) (order starts : List ℕ) (ranges : List RowRange) → All (λ n. n < length rows) order
    → map numbers_in ranges ≡ parts starts order → ((size : ℕ) → All (λ n. n < size) order → AreWithin size ranges)
    → Rising 0 starts (length (rows_at rows order)) → get_or starts 0 (length (rows_at rows order)) ≡ 0 → HaveRows rows order starts ranges
in-ranges rows order starts ranges all found within up first =
    let count : length (rows_at rows order) ≡ length order = length-map order (λ n. get_or rows n no_row) in
    let inside : AreWithin (length rows) ranges = within (length rows) all in
    let rising : Rising 0 starts (length order) = subst (Rising 0 starts) count up in
    let begins : get_or starts 0 (length order) ≡ 0 = ap (get_or starts 0) (sym count) ∙ first in
    let same : (in_turn (map (rows_in rows) ranges)).rows ≡ rows_at rows order = ranges-rows rows order starts ranges inside found rising begins in
    record {
      within = inside;
      len = ap length same ∙ count;
      rows = same;
      starts = ranges-starts rows order starts ranges inside found rising begins;
    }

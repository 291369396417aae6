-- A sound feed whose untimed rows are filled is sound.
use Rattle.std.proofs.Common.{◌≡◌, ◌∙◌, ◌<◌, ◌≤◌, ℕ, suc, Bool, true, false, List, [], ◌∷◌, length, get_or, Option, Some, None, refl, ap, subst, arith, inl, inr}
use Rattle.std.specs.Prelude.{◌&&◌, ◌||◌, not, nat_lt, is_some, if◌then◌else◌, unwrap_or, pos, int_le}
use Rattle.std.specs.List.{enumerate_from, list_all}
use Rattle.std.specs.Ordering.{nat_cmp, on}
use Rattle.std.proofs.lemmas.Bool.{and_from, and_parts, cases_Bool, cases_lt, le-ltb, or_left, or_right}
use Rattle.std.proofs.lemmas.Int.{ints}
use Rattle.std.proofs.lemmas.List.{get_or-map, length-map}
use Rattle.gtfs_field.proofs.OrderingFacts.{nat-less}
use Rattle.gtfs_table.specs.declared.file.File.TheVariants as file
use Rattle.gtfs_schema.specs.Columns.{columns_of}
use Rattle.gtfs_schema.specs.FieldValues.{if_both}
use Rattle.std.proofs.lemmas.List.FromFn.{length-enumerate_from}
use Rattle.gtfs_rows.proofs.RowTexts.{all_at}
use Rattle.gtfs_rows.specs.Cells.{are_cells, is_between}
use Rattle.gtfs_rows.specs.Content.{Content}
use Rattle.gtfs_rows.specs.TransferOrder.{Ascends}
use Rattle.gtfs_rows.specs.RowCells.{stop_time_cells}
use Rattle.gtfs_rows.specs.Rows.{StopRow}
use Rattle.gtfs_rows.specs.Runs.{is_timed}
use Rattle.gtfs_rows.specs.SoundContent.{comes, leaves, is_end, is_sound_in, is_sound_stop_row, is_stop_of, keeps_time}
use Rattle.gtfs_times.specs.Filling.{filled_row, filled_rows, reached, timed}
use Rattle.gtfs_times.specs.declared.times.Times.TheVariants as times
use Rattle.gtfs_times.proofs.FilledOrder.{KeepTime, around-time, fill, filled-at, stays, time-kept}

pub all-from : {X : Type 0} (q : X → Bool) (xs : List X) (d : X) → ((k : ℕ) → k < length xs → q (get_or xs k d) ≡ true) → list_all q xs ≡ true
all-from q [] d each = refl
all-from q (x ∷ xs) d each = rw (each 0 (omega arith)) (all-from q xs d (λ k within. each (suc k) (omega arith)))

-- ---- rows

pub filled-length : (rows : List StopRow) → length (filled_rows rows) ≡ length rows
filled-length rows = length-map (enumerate_from 0 rows) (filled_row rows) ∙ length-enumerate_from 0 rows

same-sequence : (b : Bool) (r : StopRow) (t : Option ℕ) → (if b then r else record r { arrival_time = t; departure_time = t }).stop_sequence ≡ r.stop_sequence
same-sequence true r t = refl
same-sequence false r t = refl

never-before : (o q : Option ℕ) → unwrap_or q 0 ≤ unwrap_or o 0 → not (if_both o q nat_lt) ≡ true
never-before None q low = refl
never-before (Some x) None low = refl
never-before (Some x) (Some y) low = ap not (le-ltb x y low)

-- what is asked of the rows of a trip, by index
pub record FineRows (c : Content) (rows : List StopRow) (d : StopRow) : Type 0 where
  pub keep : KeepTime rows d
  pub ascend : (i j : ℕ) → i < j → j < length rows → (get_or rows i d).stop_sequence < (get_or rows j d).stop_sequence
  pub fine : (k : ℕ) → k < length rows → is_sound_stop_row c (get_or rows k d) ≡ true

module _ (c : Content) (rows : List StopRow) (d : StopRow) (are : FineRows c rows d) where
  abbrev c2 : Content
  c2 = timed times.Interpolated c

  abbrev row2 : ℕ → StopRow
  row2 k = fill rows d are.keep k

  row2-at : (k : ℕ) → k < length rows → get_or (filled_rows rows) k d ≡ row2 k
  row2-at k within = filled-at rows k d within

  sequence-at : (k : ℕ) → (row2 k).stop_sequence ≡ (get_or rows k d).stop_sequence
  sequence-at k = same-sequence (is_timed (get_or rows k d)) (get_or rows k d) _

  stop-fine : (k : ℕ) → k < length rows → is_sound_stop_row c2 (row2 k) ≡ true
  stop-fine k within = elim (cases_Bool (is_timed (get_or rows k d))) [
    | inl is ↦ ap (is_sound_stop_row c) (stays rows d are.keep k is) ∙ are.fine k within
    | inr isnt ↦
        let a = around-time rows d are.keep k within isnt in
        let r = get_or rows k d in
        let known = (and_parts (is_stop_of c (0 ∷ []) r.stop_id) (not (if_both r.departure_time r.arrival_time nat_lt)) (are.fine k within)).0 in
        let itself : not (nat_lt a.0 a.0) ≡ true = ap not (le-ltb a.0 a.0 (omega arith)) in
        ap (is_sound_stop_row c) a.1 ∙ and_from (is_stop_of c (0 ∷ []) r.stop_id) (not (nat_lt a.0 a.0)) known itself
  ]

  pub is-timed : (k : ℕ) → k < length rows → is_timed (row2 k) ≡ true
  is-timed k within = elim (cases_Bool (is_timed (get_or rows k d))) [
    | inl is ↦ ap is_timed (stays rows d are.keep k is) ∙ is
    | inr isnt ↦ ap is_timed (around-time rows d are.keep k within isnt).1
  ]

  keeps : (k n : ℕ) → k < length rows → n < length rows → keeps_time (row2 k) (row2 n) ≡ true
  keeps k n in_k in_n = elim (cases_lt k n) [
    | inl before ↦ or_right (not (nat_lt (row2 k).stop_sequence (row2 n).stop_sequence)) _ (never-before (comes (row2 n)) (leaves (row2 k)) (time-kept rows d are.keep k n before in_n))
    | inr after ↦ or_left (not (nat_lt (row2 k).stop_sequence (row2 n).stop_sequence)) _ (ap not (le-ltb (row2 k).stop_sequence (row2 n).stop_sequence (omega (arith, sequence-at k, sequence-at n, not_later n k (omega arith) in_k))))
  ]
    where
      not_later : (i j : ℕ) → i ≤ j → j < length rows → (get_or rows i d).stop_sequence ≤ (get_or rows j d).stop_sequence
      not_later i j low within = elim (cases_lt i j) [
        | inl less ↦ omega (arith, are.ascend i j less within)
        | inr not_less ↦ let same : i ≡ j = omega arith in subst (λ m. (get_or rows i d).stop_sequence ≤ (get_or rows m d).stop_sequence) same (omega arith)
      ]

  row-fine : (k : ℕ) → k < length rows → is_sound_in c2 (filled_rows rows) (row2 k) ≡ true
  row-fine k within =
      let all = filled_rows rows in
      let r = row2 k in
      let some = or_left (is_some (leaves r)) (not (is_end all r)) (is-timed k within) in
      let long = filled-length rows in
      let later = all-from (keeps_time r) all d (λ n h. let inside : n < length rows = omega (arith, h, long) in ap (keeps_time r) (row2-at n inside) ∙ keeps k n within inside) in
      and_from (is_sound_stop_row c2 r && (is_some (leaves r) || not (is_end all r))) (list_all (keeps_time r) all) (and_from (is_sound_stop_row c2 r) _ (stop-fine k within) some) later

  pub rows-fine : list_all (is_sound_in c2 (filled_rows rows)) (filled_rows rows) ≡ true
  rows-fine =
      let long = filled-length rows in
      all-from (is_sound_in c2 (filled_rows rows)) (filled_rows rows) d (λ k h. let inside : k < length rows = omega (arith, h, long) in ap (is_sound_in c2 (filled_rows rows)) (row2-at k inside) ∙ row-fine k inside)

  pub rows-ascend : Ascends (on (λ r. r.stop_sequence) nat_cmp) (filled_rows rows)
  rows-ascend i j e before within =
      let long = filled-length rows in
      let in_j : j < length rows = omega (arith, within, long) in
      let in_i : i < length rows = omega (arith, before) in
      let less : (row2 i).stop_sequence < (row2 j).stop_sequence = omega (arith, sequence-at i, sequence-at j, are.ascend i j before in_j) in
      let at_i : get_or (filled_rows rows) i e ≡ row2 i = one i e (omega (arith, within, before)) ∙ row2-at i in_i in
      let at_j : get_or (filled_rows rows) j e ≡ row2 j = one j e within ∙ row2-at j in_j in
      (λ z. nat_cmp (at_i z).stop_sequence (at_j z).stop_sequence) ∙ nat-less (row2 i).stop_sequence (row2 j).stop_sequence less
    where
      one : (k : ℕ) (e : StopRow) → k < length (filled_rows rows) → get_or (filled_rows rows) k e ≡ get_or (filled_rows rows) k d
      one k e within = search (Rattle.std.proofs.lemmas.List.get_or_default, within)

  -- ---- cells

  time-cell : (m : ℕ) → m ≤ 3_599_999 → is_between (pos 0) (pos 3_599_999) (pos m) ≡ true
  time-cell m low = and_from (int_le (pos 0) (pos m)) (int_le (pos m) (pos 3_599_999)) (below 0 m (omega arith)) (below m 3_599_999 low)
    where
      below : (a b : ℕ) → a ≤ b → int_le (pos a) (pos b) ≡ true
      below a b h = grind (arith, ints)

  abbrev fits : List ℕ → StopRow → Bool
  fits id r = are_cells (columns_of file.StopTimes) (stop_time_cells (id, r))

  -- other times, that a file can have, in place of a row's own
  with-time : (id : List ℕ) (r : StopRow) (m : ℕ) → m ≤ 3_599_999 → fits id r ≡ true → fits id (record r { arrival_time = Some m; departure_time = Some m }) ≡ true
  with-time id r m low all =
      let one = and_parts _ _ all in
      let two = and_parts _ _ one.1 in
      let three = and_parts _ _ two.1 in
      and_from _ _ one.0 (and_from _ _ (time-cell m low) (and_from _ _ (time-cell m low) three.1))

  pub rows-fit : (id : List ℕ) → list_all (fits id) rows ≡ true → ((k : ℕ) → k < length rows → reached (k, get_or rows k d) ≤ 3_599_999) → list_all (fits id) (filled_rows rows) ≡ true
  rows-fit id all early =
      let long = filled-length rows in
      all-from (fits id) (filled_rows rows) d (λ k h. let inside : k < length rows = omega (arith, h, long) in ap (fits id) (row2-at k inside) ∙ each k inside)
    where
      each : (k : ℕ) → k < length rows → fits id (row2 k) ≡ true
      each k within = elim (cases_Bool (is_timed (get_or rows k d))) [
        | inl is ↦ ap (fits id) (stays rows d are.keep k is) ∙ all_at (fits id) rows k d all within
        | inr isnt ↦
            let a = around-time rows d are.keep k within isnt in
            ap (fits id) a.1 ∙ with-time id (get_or rows k d) a.0 (omega (arith, a.5, early a.2 a.3)) (all_at (fits id) rows k d all within)
      ]

-- What tests of rows with numbers in place of ids say of the rows that these stand for.
use Rattle.std.proofs.Common.{◌≡◌, ◌<◌, ◌-◌, ◌∙◌, ℕ, suc, Bool, true, List, [], ◌∷◌, length, map, get_or, Option, Some, None, refl, sym, ap, arith}
use Rattle.std.specs.Prelude.{◌||◌, ◌&&◌, ◌==◌, nat_eq, All, bytes_eq, find, is_some, option_and_then, ℤ}
use Rattle.std.specs.List.{last_or, list_all, list_any, slice_get}
use Rattle.std.specs.declared.cmp.Ordering.TheVariants.{Less}
use Rattle.std.proofs.Math.Bool.{and-true}
use Rattle.std.proofs.lemmas.List.{get_or-map, length-map}
use Rattle.std.proofs.lemmas.List.Elements.{All-head, All-tail}
use Rattle.std.proofs.lemmas.List.Folds.{list_all-map}
use Rattle.std.proofs.lemmas.Option.{same_Some, slice_get-get_or}
use Rattle.gtfs_field.specs.TextOrder.{text_cmp}
use Rattle.gtfs_field.proofs.ListFacts.{any_mapped, mapped_at, some_of}
use Rattle.gtfs_schema.specs.FieldValues.{if_both}
use Rattle.gtfs_rows.specs.TransferOrder.{Ascends}
use Rattle.gtfs_rows.specs.Rows.{StopRow, Trip}
use Rattle.gtfs_rows.specs.Runs.{first_leaves, is_timed}
use Rattle.gtfs_stop_times.specs.RowTimes.{left_at, reached_at}
use Rattle.gtfs_rows.specs.RowsInMemory.{IsSoundParts, content_of_parts, stop_ids, stop_of, stop_row_of, text_of_number}
use Rattle.gtfs_rows.specs.declared.parts.Parts.{Parts}
use Rattle.gtfs_rows.proofs.SameElements.{pairs-map}
use Rattle.gtfs_rows.proofs.SoundOrder.{in_order}
use Rattle.gtfs_stop_times.specs.declared.stop_row.StopRow.{StopRow as Row}
use Rattle.gtfs_advice.specs.StopTimes.{has_closed_stop, has_six_stops_at_one_moment, is_at_one_moment, is_closed, is_faster_than_a_train, is_same_stop, is_too_far, is_too_fast, last_comes, latitude, latitude_at, of_two, stops_twice_in_a_row, stretches}
use Rattle.gtfs_advice.specs.NumberedRows.{GoesAlong, are_too_fast, have_one_stop, latitude_of, latitude_there, of_two_rows}
use Rattle.gtfs_advice.proofs.Numbers.{found_id, same_number}
use Rattle.gtfs_advice.proofs.Windows.{windows, windows-next, stretches-windows, windows-map}

-- some stretch of rows passes a test
pub any_stretch : (f : Row → StopRow) (n : ℕ) (test : List StopRow → Bool) (rows : List Row)
    → list_any (λ rs. test (map f rs)) (windows n rows) ≡ list_any test (stretches n (map f rows))
any_stretch f n test rows = sym (ap (list_any test) (stretches-windows n (map f rows) ∙ windows-map f n rows) ∙ any_mapped test (map f) (windows n rows))

-- ---- two rows that follow each other

-- a test of two rows with numbers that says what one of the rows says that these stand for
module _ (f : Row → StopRow) (test : StopRow → StopRow → Bool) (of_rows : Row → Row → Bool) (P : Row → Type 0)
    (same : (r s : Row) → P r → P s → of_rows r s ≡ test (f r) (f s)) where
  in_windows : (rows : List Row) → All P rows → list_any (of_two_rows of_rows) (windows 2 rows) ≡ list_any (λ rs. of_two test (map f rs)) (windows 2 rows)
  in_windows [] all = refl
  in_windows (r ∷ []) all = refl
  in_windows (r ∷ s ∷ rest) all =
      let here = same r s (All-head P r (s ∷ rest) all) (All-head P s rest (All-tail P r (s ∷ rest) all)) in
      let later = in_windows (s ∷ rest) (All-tail P r (s ∷ rest) all) in
      let next : windows 2 (r ∷ s ∷ rest) ≡ (r ∷ s ∷ []) ∷ windows 2 (s ∷ rest) = windows-next 2 (r ∷ s ∷ rest) (omega arith) (omega arith) in
      ap (list_any (of_two_rows of_rows)) next ∙ (λ i. here i || later i) ∙ sym (ap (list_any (λ rs. of_two test (map f rs))) next)

  pub any_pair : (rows : List Row) → All P rows → list_any (of_two_rows of_rows) (windows 2 rows) ≡ list_any (of_two test) (stretches 2 (map f rows))
  any_pair rows all = in_windows rows all ∙ any_stretch f 2 (of_two test) rows

-- ---- stops

abbrev pub IsWithin : Parts → Row → Type 0
IsWithin p r = r.stop_id.0 < length p.stops

module _ (p : Parts) (sound : IsSoundParts p) where
  ids_ascend : Ascends text_cmp (stop_ids p)
  ids_ascend = pairs-map (λ s. s.stop_id) (λ a b. text_cmp a b ≡ Less) p.stops (in_order p sound).stops

  count : length (stop_ids p) ≡ length p.stops
  count = length-map p.stops (λ s. s.stop_id)

  pub one_stop : (r s : Row) → IsWithin p r → IsWithin p s → have_one_stop r s ≡ is_same_stop (stop_row_of p r) (stop_row_of p s)
  one_stop r s in_r in_s = same_number (stop_ids p) r.stop_id.0 s.stop_id.0 ids_ascend (omega (arith, count, in_r)) (omega (arith, count, in_s))

  -- the latitude at a row is that of its stop
  there : (r : Row) → IsWithin p r → latitude_there (map latitude_of p.stops) r ≡ latitude_at (content_of_parts p) (stop_row_of p r)
  there r within =
      let n = r.stop_id.0 in
      let d = some_of p.stops n within in
      let s = get_or p.stops n d in
      let at = slice_get-get_or p.stops n d within in
      let id : text_of_number (stop_ids p) n ≡ s.stop_id = get_or-map (λ x. x.stop_id) p.stops n d [] within in
      let found = found_id (λ x. x.stop_id) (content_of_parts p).stops n (stop_of p s) sound.content.in_order.stops (mapped_at (stop_of p) p.stops n s at) in
      get_or-map latitude_of p.stops n d None within
      ∙ sym (ap (option_and_then latitude) (ap (λ t. find (λ x. bytes_eq x.stop_id t) (content_of_parts p).stops) id ∙ found))

  too_fast : (r s : Row) → IsWithin p r → IsWithin p s → are_too_fast (map latitude_of p.stops) r s ≡ is_too_fast (content_of_parts p) (stop_row_of p r) (stop_row_of p s)
  too_fast r s in_r in_s = λ i. if_both (there r in_r i) (there s in_s i) (λ x y. if_both (left_at r) (reached_at s) (is_too_far x y))

-- ---- a trip

module _ (p : Parts) (rows : List Row) (t : Trip) (along : GoesAlong p rows t) where
  pub twice_in_a_row : list_any (of_two_rows have_one_stop) (windows 2 rows) ≡ stops_twice_in_a_row t
  twice_in_a_row =
      any_pair (stop_row_of p) is_same_stop have_one_stop (IsWithin p) (one_stop p along.sound) rows along.are.stops
      ∙ ap (λ rs. list_any (of_two is_same_stop) (stretches 2 rs)) (sym along.is)

  pub faster : (latitudes : List (Option ℤ)) → latitudes ≡ map latitude_of p.stops → list_any (of_two_rows (are_too_fast latitudes)) (windows 2 rows) ≡ is_faster_than_a_train (content_of_parts p) t
  faster latitudes are =
      ap (λ ls. list_any (of_two_rows (are_too_fast ls)) (windows 2 rows)) are
      ∙ any_pair (stop_row_of p) (is_too_fast (content_of_parts p)) (are_too_fast (map latitude_of p.stops)) (IsWithin p) (too_fast p along.sound) rows along.are.stops
      ∙ ap (λ rs. list_any (of_two (is_too_fast (content_of_parts p))) (stretches 2 rs)) (sym along.is)

  pub six_at_once : list_any (λ rs. is_at_one_moment (map (stop_row_of p) rs)) (windows 6 rows) ≡ has_six_stops_at_one_moment t
  six_at_once = any_stretch (stop_row_of p) 6 is_at_one_moment rows ∙ ap (λ rs. list_any is_at_one_moment (stretches 6 rs)) (sym along.is)

  pub any_closed : list_any (λ r. is_closed (stop_row_of p r)) rows ≡ has_closed_stop t
  any_closed = sym (any_mapped is_closed (stop_row_of p) rows) ∙ ap (list_any is_closed) (sym along.is)

-- ---- times

-- the last of some rows
pub last_is : {X Y : Type 0} (f : X → Y) (xs : List X) (x : X) (o : Option Y) → slice_get xs (length xs - 1) ≡ Some x → last_or o (map f xs) ≡ Some (f x)
last_is f [] x o at = cc
last_is f (y ∷ []) x o at = ap (λ z. Some (f z)) (same_Some y x at)
last_is {X = X} f (y ∷ z ∷ ys) x o at =
    let here : suc (suc (length ys)) - 1 ≡ suc (length ys) = omega arith in
    let next : suc (length ys) - 1 ≡ length ys = omega arith in
    last_is f (z ∷ ys) x (Some (f y)) (ap (slice_get (z ∷ ys)) next ∙ ap (slice_get (y ∷ z ∷ ys)) (sym here) ∙ at)

-- rows of which the last is reached when the first is left
pub at_one_moment : (p : Parts) (rows : List Row) (a b : ℕ) → first_leaves (map (stop_row_of p) rows) ≡ Some a → last_comes (map (stop_row_of p) rows) ≡ Some b → (a == b) ≡ true
    → list_all (λ r. is_some (left_at r)) rows ≡ is_at_one_moment (map (stop_row_of p) rows)
at_one_moment p rows a b first last same =
    let all = map (stop_row_of p) rows in
    let pass : if_both (first_leaves all) (last_comes all) nat_eq ≡ true = (λ i. if_both (first i) (last i) nat_eq) ∙ same in
    sym (list_all-map is_timed (stop_row_of p) rows) ∙ sym (ap (λ t. list_all is_timed all && t) pass ∙ and-true (list_all is_timed all))

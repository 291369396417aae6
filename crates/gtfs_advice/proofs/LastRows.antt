-- Which rows of a trip are not its last one.
use Rattle.std.proofs.Common.{◌≡◌, ◌<◌, ◌∙◌, ◌++◌, ℕ, Bool, true, false, List, [], ◌∷◌, length, map, get_or, Option, Some, None, refl, sym, ap, subst, arith, inl, inr}
use Rattle.std.specs.Prelude.{◌&&◌, ◌||◌, nat_lt, All, AllPairs, is_none, option_map}
use Rattle.std.specs.List.{list_any}
use Rattle.std.proofs.Math.Bool.{or-false}
use Rattle.std.proofs.lemmas.Bool.{cases_lt, le-ltb, lt-ltb}
use Rattle.std.proofs.lemmas.List.{get_or_append_left, get_or_push, length_push}
use Rattle.std.proofs.lemmas.List.Elements.{All-head, All-tail}
use Rattle.std.proofs.lemmas.List.Folds.{list_any-append, list_any_at, list_any_none}
use Rattle.gtfs_field.proofs.ListFacts.{any_alike, any_mapped}
use Rattle.gtfs_rows.specs.Rows.{StopRow, Trip}
use Rattle.gtfs_rows.specs.Runs.{is_not_last}
use Rattle.gtfs_rows.specs.RowsInMemory.{stop_row_of, text_of_number}
use Rattle.gtfs_rows.specs.declared.parts.Parts.{Parts}
use Rattle.gtfs_stop_times.specs.declared.stop_row.StopRow.{StopRow as Row}
use Rattle.gtfs_advice.specs.NumberedRows.{GoesAlong}

-- a test that all pass says no more
under : {X : Type 0} (p q : X → Bool) (xs : List X) → All (λ x. p x ≡ true) xs → list_any (λ x. p x && q x) xs ≡ list_any q xs
under p q [] all = refl
under p q (x ∷ xs) all = λ i. (All-head (λ y. p y ≡ true) x xs all i && q x) || under p q xs (All-tail (λ y. p y ≡ true) x xs all) i

is_none-map : {X Y : Type 0} (f : X → Y) (o : Option X) → is_none (option_map f o) ≡ is_none o
is_none-map f None = refl
is_none-map f (Some x) = refl

module _ (rest : List Row) (last : Row) (up : AllPairs (λ r s. r.stop_sequence < s.stop_sequence) (rest ++ last ∷ [])) where
  abbrev rows : List Row
  rows = rest ++ last ∷ []

  abbrev has_later : Row → Bool
  has_later r = list_any (λ o. nat_lt r.stop_sequence o.stop_sequence) rows

  below : (k : ℕ) (d : Row) → k < length rest → (get_or rest k d).stop_sequence < last.stop_sequence
  below k d within =
      let size = length_push rest last in
      let both = up k (length rest) d within (omega (arith, size)) in
      subst (λ (r : Row). r.stop_sequence < last.stop_sequence) (get_or_append_left rest (last ∷ []) d k within)
      (subst (λ (s : Row). (get_or rows k d).stop_sequence < s.stop_sequence) (get_or_push rest last d (length rest) refl) both)

  before : All (λ r. has_later r ≡ true) rest
  before k d within =
      list_any_at (λ o. nat_lt (get_or rest k d).stop_sequence o.stop_sequence) rows (length rest) d (omega (arith, length_push rest last))
      (ap (λ (o : Row). nat_lt (get_or rest k d).stop_sequence o.stop_sequence) (get_or_push rest last d (length rest) refl)
      ∙ lt-ltb (get_or rest k d).stop_sequence last.stop_sequence (below k d within))

  none_later : has_later last ≡ false
  none_later = list_any_none (λ o. nat_lt last.stop_sequence o.stop_sequence) rows (λ k d within. elim (cases_lt k (length rest)) [
    | inl inner ↦
        ap (λ (o : Row). nat_lt last.stop_sequence o.stop_sequence) (get_or_append_left rest (last ∷ []) d k inner)
        ∙ le-ltb last.stop_sequence (get_or rest k d).stop_sequence (omega (arith, below k d inner))
    | inr end ↦
        let size = length_push rest last in
        let at : length rest ≡ k = omega (arith, end, size, within) in
        ap (λ (o : Row). nat_lt last.stop_sequence o.stop_sequence) (get_or_push rest last d k at)
        ∙ le-ltb last.stop_sequence last.stop_sequence (omega arith)
  ])

  but_last : (q : Row → Bool) → list_any (λ r. has_later r && q r) rows ≡ list_any q rest
  but_last q =
      list_any-append (λ r. has_later r && q r) rest (last ∷ [])
      ∙ (λ i. under has_later q rest before i || ((none_later i && q last) || false))
      ∙ or-false (list_any q rest)

-- some row but the last one passes a test
pub without_last : (p : Parts) (all rest : List Row) (last : Row) (t : Trip) → GoesAlong p all t → all ≡ rest ++ last ∷ []
    → list_any (λ r. is_none r.stop_headsign) rest ≡ list_any (λ row. is_not_last t row && is_none row.stop_headsign) t.stop_rows
without_last p all rest last t along is =
    let f = stop_row_of p in
    let of_rows : (rs : List StopRow) → Bool = λ rs. list_any (λ row. list_any (λ o. nat_lt row.stop_sequence o.stop_sequence) rs && is_none row.stop_headsign) rs in
    let up = subst (AllPairs (λ r s. r.stop_sequence < s.stop_sequence)) is along.are.ascend in
    let rows = rest ++ last ∷ [] in
    sym (
    ap of_rows (along.is ∙ ap (map f) is)
    ∙ any_mapped (λ row. list_any (λ o. nat_lt row.stop_sequence o.stop_sequence) (map f rows) && is_none row.stop_headsign) f rows
    ∙ any_alike (λ r. list_any (λ o. nat_lt r.stop_sequence o.stop_sequence) (map f rows) && is_none (f r).stop_headsign)
    (λ r. list_any (λ o. nat_lt r.stop_sequence o.stop_sequence) rows && is_none r.stop_headsign) rows
    (λ r i. any_mapped (λ o. nat_lt r.stop_sequence o.stop_sequence) f rows i && is_none-map (text_of_number p.headsigns) r.stop_headsign i)
    ∙ but_last rest last up (λ r. is_none r.stop_headsign)
    )

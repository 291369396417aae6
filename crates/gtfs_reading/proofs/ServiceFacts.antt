-- The ids of both calendar files, in order, each once.
use Rattle.std.proofs.Common.{◌≡◌, ◌<◌, ◌+◌, ◌++◌, ◌-◌, ℕ, List, [], ◌∷◌, get_or, length, map, None, inl, inr, arith, true, bytes_eq, Bool, Some, codes, Bor, refl, sym, ◌∙◌, ap, ap₂, subst}
use Rattle.std.specs.List.{All, Contains, HoldsAt, dedup, range_with_len}
use Rattle.std.specs.List.Sorted.{IsNonDecreasingBy, IsPartitionPoint, IsPermutation, IsSorted, IsSortedBy, IsStrictlySortedBy}
use Rattle.std.specs.Cmp.{tied_itself}
use Rattle.std.specs.Ordering.{is_lt, on, ordering_index, ordering_reverse}
use Rattle.std.specs.FinMap.{nat_cmp-IsAntisymmetric, slice_cmp-IsAntisymmetric}
use Rattle.std.specs.declared.cmp.Ordering.TheVariants.{Less, Equal, Greater}
use Rattle.std.specs.declared.cmp.Ordering.{Ordering}
use Rattle.std.specs.Cmp.Lexicographic.{nat_list_cmp_total, on_texts_equal}
use Rattle.std.proofs.lemmas.Cmp.{on_total}
use Rattle.std.proofs.lemmas.List.Elements.{All-head, All-map, All-tail, filter_passes}
use Rattle.std.proofs.lemmas.Bool.{cases_lt}
use Rattle.std.proofs.lemmas.List.{get_or-map, length-map}
use Rattle.std.proofs.lemmas.List.Sorted.{searchable_from_sorted}
use Rattle.std.proofs.lemmas.List.Kept.{Any-dedup, Contains-from_dedup, IsStrictlySortedBy-dedup}
use Rattle.std.proofs.lemmas.Map.Keys.{Less-from_sorted}
use Rattle.std.proofs.lemmas.Map.Text.{is_eq-slice_cmp}
use Rattle.std.proofs.lemmas.Slice.Eq.{bytes_eq-Decides}
use Rattle.gtfs_field.proofs.ListFacts.{pairs-from_map}
use Rattle.gtfs_field.specs.TextOrder.{text_cmp}
use Rattle.gtfs_table.specs.Rows.{is_row, records_in, rows}
use Rattle.gtfs_table.specs.Tables.{Dataset}
use Rattle.gtfs_table.specs.declared.file.File.{File}
use Rattle.gtfs_table.specs.declared.file.File.TheVariants as file
use Rattle.gtfs_schema.specs.Columns.{id, required, column_named}
use Rattle.gtfs_schema.specs.Problems.{Passes}
use Rattle.gtfs_schema.specs.RowConditions.{text_in}
use Rattle.gtfs_rows.specs.TransferOrder.{Ascends}
use Rattle.gtfs_rows.specs.ContentRead.{services_named, text_at}
use Rattle.gtfs_rows.proofs.ByKey.{by_key_is}
use Rattle.gtfs_rows.proofs.SameElements.{SameElements, contains-from_map, contains-map, pairs-map, same-from_permutation, same-map}
use Rattle.gtfs_reading.specs.ServiceIds.{HasAll, NumbersText, service_ids, service_texts}
use Rattle.gtfs_reading.proofs.IdTexts.{text_at_is}

abbrev pub text_order : Bor (List ℕ) → Bor (List ℕ) → Ordering
text_order = on (λ t. t.now) text_cmp

abbrev pub text_equal : Bor (List ℕ) → Bor (List ℕ) → Bool
text_equal = on (λ t. t.now) bytes_eq

abbrev pub texts : List (Bor (List ℕ)) → List (List ℕ)
texts ids = map (λ t. t.now) ids

-- texts that were put in order, each kept once
pub kept_ascend : (xs : List (Bor (List ℕ))) → IsSorted text_order xs → Ascends text_cmp (texts (dedup text_equal xs))
kept_ascend xs sorted =
    let strict : IsStrictlySortedBy text_order (dedup text_equal xs) = IsStrictlySortedBy-dedup (on_total (λ t. t.now) nat_list_cmp_total) (λ x y. sym (is_eq-slice_cmp x.now y.now)) xs sorted in
    pairs-map (λ t. t.now) (λ x y. text_cmp x y ≡ Less) (dedup text_equal xs) (λ i j d h l. Less-from_sorted text_order (dedup text_equal xs) i j d strict h l)

kept_same : (xs : List (Bor (List ℕ))) → SameElements (texts xs) (texts (dedup text_equal xs))
kept_same xs = record {
  there = λ x at.
      let from = contains-from_map (λ (t : Bor (List ℕ)). t.now) xs x at in
      let kept = Any-dedup (on_texts_equal (λ (t : Bor (List ℕ)). t.now)) xs from.0 from.1.0 in
      let same : kept.1.now ≡ x = sym ((bytes_eq-Decides from.0.now kept.1.now).0 kept.4) ∙ from.1.1 in
      subst (Contains (texts (dedup text_equal xs))) same (contains-map (λ (t : Bor (List ℕ)). t.now) (dedup text_equal xs) kept.1 (kept.0, kept.2, kept.3));
  back = λ x at.
      let from = contains-from_map (λ (t : Bor (List ℕ)). t.now) (dedup text_equal xs) x at in
      subst (Contains (texts xs)) from.1.1 (contains-map (λ (t : Bor (List ℕ)). t.now) xs from.0 (Contains-from_dedup text_equal xs from.0 from.1.0));
}

-- ---- in a dataset that passes the ids are the texts

module _ (d : Dataset) (passes : Passes d) (x : File) (there : column_named x (codes "service_id") ≡ Some (required "service_id" id)) where
  ids_as_texts : (ns : List ℕ) → All (λ n. is_row (records_in d x) n ≡ true) ns → map (λ n. text_at d x n "service_id") ns ≡ map (λ n. text_in d x n (codes "service_id")) ns
  ids_as_texts [] are = refl
  ids_as_texts (n ∷ ns) are =
      ap₂ (λ t ts. t ∷ ts) (text_at_is d passes x n (All-head (λ n. is_row (records_in d x) n ≡ true) n ns are) "service_id" (required "service_id" id) there refl)
      (ids_as_texts ns (All-tail (λ n. is_row (records_in d x) n ≡ true) n ns are))

  ids_of_file : map (λ n. text_at d x n "service_id") (rows d x) ≡ map (λ n. text_in d x n (codes "service_id")) (rows d x)
  ids_of_file = ids_as_texts (rows d x) (filter_passes (is_row (records_in d x)) (range_with_len 2 (length (records_in d x) - 1)))

both_as_texts : (d : Dataset) → Passes d → services_named d ≡ service_texts d
both_as_texts d passes = ap₂ (λ ts us. ts ++ us) (ids_of_file d passes file.Calendar refl) (ids_of_file d passes file.CalendarDates refl)

pub ids_kept : (d : Dataset) → Passes d → (xs ys : List (Bor (List ℕ))) → texts xs ≡ service_texts d → IsPermutation xs ys → IsSorted text_order ys
    → texts (dedup text_equal ys) ≡ service_ids d
ids_kept d passes xs ys all moved sorted =
    let same : SameElements (services_named d) (texts (dedup text_equal ys)) =
    subst (λ ts. SameElements ts (texts (dedup text_equal ys))) (all ∙ sym (both_as_texts d passes)) (record {
      there = λ x at. (kept_same ys).there x ((same-map (λ (t : Bor (List ℕ)). t.now) xs ys (same-from_permutation xs ys moved)).there x at);
      back = λ x at. (same-map (λ (t : Bor (List ℕ)). t.now) xs ys (same-from_permutation xs ys moved)).back x ((kept_same ys).back x at);
    }) in
    sym (by_key_is text_cmp nat_list_cmp_total (λ t. t) (slice_cmp-IsAntisymmetric nat_cmp-IsAntisymmetric) (services_named d) (texts (dedup text_equal ys)) same (kept_ascend ys sorted))

pub all_kept : (d : Dataset) (xs ys : List (Bor (List ℕ))) → texts xs ≡ service_texts d → IsPermutation xs ys → HasAll (service_texts d) (texts (dedup text_equal ys))
all_kept d xs ys all moved t at =
    (kept_same ys).there t ((same-map (λ (t : Bor (List ℕ)). t.now) xs ys (same-from_permutation xs ys moved)).there t (subst (λ ts. Contains ts t) (sym all) at))

-- ---- a search among them

module _ (id : List ℕ) (xs : List (Bor (List ℕ))) (up : Ascends text_cmp (texts xs)) where
  ascends : IsSortedBy (λ (a b : Bor (List ℕ)). is_lt (text_cmp a.now b.now)) xs
  ascends k d low h =
      let less = pairs-from_map (λ (t : Bor (List ℕ)). t.now) (λ x y. text_cmp x y ≡ Less) xs up k (k + 1) d (omega arith) h in
      ap is_lt (nat_list_cmp_total.antisymm (get_or xs (k + 1) d).now (get_or xs k d).now ∙ ap ordering_reverse less)

  -- what a search finds is there
  pub text_found : (at : ℕ) → at < length xs → HoldsAt (λ (r : Bor (List ℕ)). text_cmp r.now id ≡ Equal) xs at → NumbersText (texts xs) id (Some at)
  text_found at h tie =
      let d : Bor (List ℕ) = record { ref_ptr = (0, 0); now = [] } in (
        subst (λ n. at < n) (sym (length-map xs (λ t. t.now))) h,
        get_or-map (λ (t : Bor (List ℕ)). t.now) xs at d [] h ∙ slice_cmp-IsAntisymmetric nat_cmp-IsAntisymmetric (get_or xs at d).now id (tie d),
      )

  apart : (x : List ℕ) (r : Ordering) → text_cmp x id ≡ r → (r ≡ Equal → ⊥) → x ≡ id → ⊥
  apart x r is other same = other (sym is ∙ ap (λ y. text_cmp y id) same ∙ tied_itself nat_list_cmp_total id)

  -- and what it misses is not
  pub text_missing : (n : ℕ) → (IsNonDecreasingBy (λ (r : Bor (List ℕ)). ordering_index (text_cmp r.now id)) xs
      → IsPartitionPoint (λ (r : Bor (List ℕ)). text_cmp r.now id ≡ Less) (λ r. text_cmp r.now id ≡ Greater) xs n) → NumbersText (texts xs) id None
  text_missing n rank =
      let sides = rank (searchable_from_sorted nat_list_cmp_total (λ (t : Bor (List ℕ)). t.now) xs id ascends) in
      All-map (λ t. t ≡ id → ⊥) (λ (t : Bor (List ℕ)). t.now) xs (λ k x h. elim (cases_lt k n) [
        | inl before ↦ apart (get_or xs k x).now Less (sides.0 k x (omega arith) before) (λ e. cc e)
        | inr after ↦ apart (get_or xs k x).now Greater (sides.1 k x after h) (λ e. cc e)
      ])

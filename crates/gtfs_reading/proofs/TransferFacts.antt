-- Transfers stand in one order by the numbers of what they name and by its ids, and no two of a dataset that passes have one key.
use Rattle.std.proofs.Common.{◌≡◌, ℕ, ◌+◌, ◌<◌, ◌∷◌, [], List, map, length, get_or, true, false, Bool, codes, Option, Some, None, option_map, refl, sym, ap, ◌∙◌, subst, arith, inl, inr}
use Rattle.std.specs.Prelude.{◌&&◌, if◌then◌else◌, nat_lt, unwrap_or}
use Prim.Native.String.{String as Literal}
use Rattle.std.specs.Cmp.{Equal-is, nat_cmp_total, tied_itself}
use Rattle.std.specs.Cmp.Lexicographic.{nat_list_cmp_total, pointwise, slice_cmp}
use Rattle.std.specs.FinMap as table
use Rattle.std.specs.FinMap.Entries.{below_all, is_sorted}
use Rattle.std.specs.List.{All, AllPairs, list_all}
use Rattle.std.specs.List.Sorted.{IsPermutation, IsSortedByKey}
use Rattle.std.specs.Option.{option_cmp}
use Rattle.std.specs.Ordering.{is_eq, is_lt, nat_cmp, ordering_reverse, ordering_then}
use Rattle.std.specs.declared.cmp.Ordering.TheVariants.{Less, Equal, Greater}
use Rattle.std.proofs.lemmas.Bool.{and_parts, cases_Bool, cases_lt}
use Rattle.std.proofs.lemmas.Bool.Decides.{nat_tests}
use Rattle.std.proofs.lemmas.List.Elements.{All-cons, All-head, All-nil, All-tail}
use Rattle.std.proofs.lemmas.List.Kept.{AllPairs-cons}
use Rattle.std.proofs.lemmas.List.Sorted.{All-permutation}
use lib.Dec.{T}
use Rattle.gtfs_field.proofs.OrderingFacts.{less_so}
use Rattle.gtfs_field.specs.TextOrder.{text_cmp}
use Rattle.gtfs_table.specs.Rows.{is_empty, is_row, records_in, rows}
use Rattle.gtfs_table.specs.Tables.{Dataset}
use Rattle.gtfs_table.specs.declared.file.File.TheVariants as file
use Rattle.gtfs_schema.specs.Columns.{column_named, id, optional}
use Rattle.gtfs_schema.specs.KeyRules.{all_there, key_in, key_part, same_key}
use Rattle.gtfs_schema.specs.Problems.{Passes}
use Rattle.gtfs_schema.specs.RowConditions.{text_in, value_in, word_in}
use Rattle.gtfs_schema.specs.FieldValues.{Value, if_both, value_eq, word}
use Rattle.gtfs_schema.specs.steps.Ids.{FirstRows, ids_of}
use Rattle.gtfs_schema.proofs.SiteFacts.{text_itself}
use Rattle.gtfs_schema.proofs.ValueFacts.{word_value}
use Rattle.gtfs_rows.specs.declared.transfer.Transfer.{Transfer as TransferRow}
use Rattle.gtfs_rows.specs.TransferOrder.{Ascends, by_key, transfer_key, transfer_key_cmp}
use Rattle.gtfs_rows.specs.ContentRead.{transfer_in}
use Rattle.gtfs_rows.specs.Rows.{Transfer}
use Rattle.gtfs_rows.specs.RowsInMemory.{is_number_within, text_of_number}
use Rattle.gtfs_rows.proofs.ContentAgain.{transfer_antisymmetric, transfer_total}
use Rattle.gtfs_rows.proofs.RowTexts.{all_at}
use Rattle.gtfs_rows.proofs.SameElements.{pairs-map}
use Rattle.gtfs_rows.specs.TransferEnds.{names_ends, transfer_named, transfer_numbers}
use Rattle.gtfs_reading.proofs.Fields.{numbers_of}
use Rattle.gtfs_reading.proofs.IdTexts.{word_none, word_there}
use Rattle.gtfs_reading.proofs.RowKeys.{all_rows, keys_apart, rows_up}
use Rattle.gtfs_reading.proofs.SortedKeys.{by_key_mapped}

-- ---- ids ascend by their numbers

both_hold : (a b : Bool) → T (a && b) → T a × T b
both_hold true b h = (tt, h)
both_hold false b h = absurd h

below_keys : (k : List ℕ) (es : List (List ℕ × ℕ)) → T (below_all text_cmp k es) → All (λ y. text_cmp k y ≡ Less) (map (λ e. e.0) es)
below_keys k [] h = All-nil (λ y. text_cmp k y ≡ Less)
below_keys k (e ∷ es) h =
    let parts = both_hold (is_lt (text_cmp k e.0)) (below_all text_cmp k es) h in
    All-cons (λ y. text_cmp k y ≡ Less) e.0 (map (λ e. e.0) es) (less_so (text_cmp k e.0) parts.0) (below_keys k es parts.1)

keys_up : (es : List (List ℕ × ℕ)) → T (is_sorted text_cmp es) → Ascends text_cmp (map (λ e. e.0) es)
keys_up [] h = λ i j d l m. absurd (omega arith)
keys_up (e ∷ es) h =
    let parts = both_hold (below_all text_cmp e.0 es) (is_sorted text_cmp es) h in
    AllPairs-cons (λ x y. text_cmp x y ≡ Less) e.0 (map (λ e. e.0) es) (below_keys e.0 es parts.0) (keys_up es parts.1)

pub ids_up : (ids : FirstRows) → Ascends text_cmp (ids_of ids)
ids_up ids = keys_up (table.entries ids) (table.entries_sorted ids)

-- ---- numbers stand in the order of ids

within_is : (k n : ℕ) → nat_lt n k ≡ true → n < k
within_is k n h = grind (arith, nat_tests, h)

module _ (ids : List (List ℕ)) (up : Ascends text_cmp ids) where
  abbrev named : ℕ → List ℕ
  named = text_of_number ids

  later_greater : (m n : ℕ) → n < m → m < length ids → text_cmp (named m) (named n) ≡ Greater
  later_greater m n h within = nat_list_cmp_total.antisymm (named m) (named n) ∙ ap ordering_reverse (up n m [] h within)

  number_order : (m n : ℕ) → m < length ids → n < length ids → nat_cmp m n ≡ text_cmp (named m) (named n)
  number_order m n hm hn = elim (cases_lt m n) [
    | inl before ↦ (let less : nat_cmp m n ≡ Less = grind (arith, nat_tests, before) in less ∙ sym (up m n [] before hn))
    | inr past ↦ elim (cases_lt n m) [
      | inl after ↦ (let greater : nat_cmp m n ≡ Greater = grind (arith, nat_tests, after) in greater ∙ sym (later_greater m n after hm))
      | inr none ↦
          let same : m ≡ n = omega (arith, past, none) in
          ap (λ k. nat_cmp k n) same ∙ tied_itself nat_cmp_total n ∙ sym (ap (λ k. text_cmp (named k) (named n)) same ∙ tied_itself nat_list_cmp_total (named n))
    ]
  ]

  part_order : (o p : Option ℕ) → is_number_within (length ids) o ≡ true → is_number_within (length ids) p ≡ true
      → option_cmp nat_cmp o p ≡ option_cmp text_cmp (option_map named o) (option_map named p)
  part_order None None g h = refl
  part_order None (Some n) g h = refl
  part_order (Some m) None g h = refl
  part_order (Some m) (Some n) g h = number_order m n (within_is (length ids) m g) (within_is (length ids) n h)

  -- of numbers in their types
  pub end_order : {N : Type 0} (number : N → ℕ) (o p : Option N) → is_number_within (length ids) (option_map number o) ≡ true → is_number_within (length ids) (option_map number p) ≡ true
      → option_cmp nat_cmp (option_map number o) (option_map number p)
      ≡ option_cmp text_cmp (option_map (λ n. named (number n)) o) (option_map (λ n. named (number n)) p)
  end_order number o p g h =
      part_order (option_map number o) (option_map number p) g h
      ∙ (λ i. option_cmp text_cmp (sym (numbers_of number named o) i) (sym (numbers_of number named p) i))

-- six tests
record AreSix (a b c d e f : Bool) : Type 0 where
  pub from_stop : a ≡ true
  pub to_stop : b ≡ true
  pub from_route : c ≡ true
  pub to_route : d ≡ true
  pub from_trip : e ≡ true
  pub to_trip : f ≡ true

all_six : (a b c d e f : Bool) → (a && b && c && d && e && f) ≡ true → AreSix a b c d e f
all_six a b c d e f h =
    let p = and_parts (a && b && c && d && e) f h in
    let q = and_parts (a && b && c && d) e p.0 in
    let r = and_parts (a && b && c) d q.0 in
    let s = and_parts (a && b) c r.0 in
    let t = and_parts a b s.0 in
    record { from_stop = t.0; to_stop = t.1; from_route = s.1; to_route = r.1; from_trip = q.1; to_trip = p.1 }

module _ (stops routes trips : List (List ℕ)) (stops_up : Ascends text_cmp stops) (routes_up : Ascends text_cmp routes) (trips_up : Ascends text_cmp trips) where
  abbrev as_named : TransferRow → Transfer
  as_named = transfer_named stops routes trips

  key_order : (t u : TransferRow) → names_ends stops routes trips t ≡ true → names_ends stops routes trips u ≡ true
      → slice_cmp (option_cmp nat_cmp) (transfer_numbers t) (transfer_numbers u) ≡ transfer_key_cmp (transfer_key (as_named t)) (transfer_key (as_named u))
  key_order t u g h =
      let ts = all_six _ _ _ _ _ _ g in
      let us = all_six _ _ _ _ _ _ h in
      λ i. ordering_then (end_order stops stops_up (λ n. n.0) t.from_stop_id u.from_stop_id ts.from_stop us.from_stop i)
      (ordering_then (end_order stops stops_up (λ n. n.0) t.to_stop_id u.to_stop_id ts.to_stop us.to_stop i)
      (ordering_then (end_order routes routes_up (λ n. n.0) t.from_route_id u.from_route_id ts.from_route us.from_route i)
      (ordering_then (end_order routes routes_up (λ n. n.0) t.to_route_id u.to_route_id ts.to_route us.to_route i)
      (ordering_then (end_order trips trips_up (λ n. n.0) t.from_trip_id u.from_trip_id ts.from_trip us.from_trip i)
      (ordering_then (end_order trips trips_up (λ n. n.0) t.to_trip_id u.to_trip_id ts.to_trip us.to_trip i) Equal)))))

-- ---- no two rows have one key

abbrev as_value : Option (List ℕ) → Value
as_value o = word (unwrap_or o [])

words_itself : (os : List (Option (List ℕ))) → pointwise value_eq (map as_value os) (map as_value os) ≡ true
words_itself [] = refl
words_itself (o ∷ os) = rw (text_itself (unwrap_or o []), words_itself os) refl

module _ (d : Dataset) (passes : Passes d) where
  part_at : (n : ℕ) → is_row (records_in d file.Transfers) n ≡ true → (column : Literal) → column_named file.Transfers (codes column) ≡ Some (optional column id)
      → key_part d file.Transfers n (codes column) ≡ Some (as_value (word_in d file.Transfers n column))
  part_at n row column there = elim (cases_Bool (is_empty (text_in d file.Transfers n (codes column)))) [
    | inl empty ↦
        let none = word_none d passes file.Transfers n row column (optional column id) there refl empty in
        ap (λ b. if b then Some (word []) else value_in d file.Transfers n (codes column)) empty ∙ sym (ap (λ o. Some (as_value o)) none)
    | inr filled ↦
        let given = word_there d passes file.Transfers n row column (optional column id) there refl filled in
        ap (λ b. if b then Some (word []) else value_in d file.Transfers n (codes column)) filled
        ∙ word_value (value_in d file.Transfers n (codes column)) _ given
        ∙ sym (ap (λ o. Some (as_value o)) given)
  ]

  key_at : (n : ℕ) → is_row (records_in d file.Transfers) n ≡ true → key_in d file.Transfers n ≡ Some (map as_value (transfer_key (transfer_in d n)))
  key_at n row = λ i. all_there (part_at n row "from_stop_id" refl i ∷ part_at n row "to_stop_id" refl i ∷ part_at n row "from_route_id" refl i
      ∷ part_at n row "to_route_id" refl i ∷ part_at n row "from_trip_id" refl i ∷ part_at n row "to_trip_id" refl i ∷ [])

  abbrev key_of : ℕ → List (Option (List ℕ))
  key_of n = transfer_key (transfer_in d n)

  clash : (m n : ℕ) → is_row (records_in d file.Transfers) m ≡ true → is_row (records_in d file.Transfers) n ≡ true → m < n → key_of m ≡ key_of n → ⊥
  clash m n first second below same =
      let one : same_key d file.Transfers n m ≡ true =
      (λ i. if_both (key_at n second i) ((key_at m first ∙ ap (λ k. Some (map as_value k)) same) i) (pointwise value_eq)) ∙ words_itself (key_of n) in
      let no : true ≡ false = sym one ∙ keys_apart d passes file.Transfers m n first second below in
      cc no

  transfers_apart : AllPairs (λ (t u : Transfer). is_eq (transfer_key_cmp (transfer_key t) (transfer_key u)) ≡ false) (map (transfer_in d) (rows d file.Transfers))
  transfers_apart = pairs-map (transfer_in d) (λ (t u : Transfer). is_eq (transfer_key_cmp (transfer_key t) (transfer_key u)) ≡ false) (rows d file.Transfers) (λ i j e h l.
      let m = get_or (rows d file.Transfers) i e in
      let n = get_or (rows d file.Transfers) j e in
      elim (cases_Bool (is_eq (transfer_key_cmp (key_of m) (key_of n)))) [
        | inl tie ↦ absurd (clash m n (all_rows d file.Transfers i e (omega (arith, h, l))) (all_rows d file.Transfers j e l) (rows_up d file.Transfers i j e h l)
            (transfer_antisymmetric (key_of m) (key_of n) ((Equal-is (transfer_key_cmp (key_of m) (key_of n))).0 tie)))
        | inr apart ↦ apart
      ])

all_of : {X : Type 0} (p : X → Bool) (xs : List X) → All (λ x. p x ≡ true) xs → list_all p xs ≡ true
all_of p [] all = refl
all_of p (x ∷ xs) all = rw (All-head (λ x. p x ≡ true) x xs all, all_of p xs (All-tail (λ x. p x ≡ true) x xs all)) refl

-- a test that all pass is passed in any order
pub all_moved : {X : Type 0} (p : X → Bool) (xs ys : List X) → list_all p xs ≡ true → IsPermutation xs ys → list_all p ys ≡ true
all_moved p xs ys all moved = all_of p ys (All-permutation (λ x. p x ≡ true) xs ys moved (λ k d h. all_at p xs k d all h))

-- sorted by the numbers of what they name, what was read of the rows are the transfers
pub transfers_sorted : (d : Dataset) → Passes d → (i j k : FirstRows) (read sorted : List TransferRow)
    → map (transfer_named (ids_of i) (ids_of j) (ids_of k)) read ≡ map (transfer_in d) (rows d file.Transfers)
    → list_all (names_ends (ids_of i) (ids_of j) (ids_of k)) read ≡ true → IsPermutation read sorted → IsSortedByKey transfer_numbers (slice_cmp (option_cmp nat_cmp)) sorted
    → map (transfer_named (ids_of i) (ids_of j) (ids_of k)) sorted ≡ by_key transfer_key_cmp transfer_key (map (transfer_in d) (rows d file.Transfers))
transfers_sorted d passes i j k read sorted reads within moved up =
    let stands : TransferRow → Transfer = transfer_named (ids_of i) (ids_of j) (ids_of k) in
    let test : TransferRow → Bool = names_ends (ids_of i) (ids_of j) (ids_of k) in
    let all : list_all test sorted ≡ true = all_moved test read sorted within moved in
    let apart : AllPairs (λ (t u : Transfer). is_eq (transfer_key_cmp (transfer_key t) (transfer_key u)) ≡ false) (map stands read) =
    subst (AllPairs (λ (t u : Transfer). is_eq (transfer_key_cmp (transfer_key t) (transfer_key u)) ≡ false)) (sym reads) (transfers_apart d passes) in
    sym (by_key_mapped transfer_key_cmp transfer_total transfer_key stands transfer_antisymmetric read sorted apart moved (λ n z low h.
    sym (ap is_lt (key_order (ids_of i) (ids_of j) (ids_of k) (ids_up i) (ids_up j) (ids_up k) (get_or sorted (n + 1) z) (get_or sorted n z)
    (all_at test sorted (n + 1) z all h) (all_at test sorted n z all (omega (arith, h)))))
    ∙ up n z low h))
    ∙ ap (by_key transfer_key_cmp transfer_key) reads

-- The rows of ids, as they are listed, are the ids by their numbers.
use Rattle.std.proofs.Common.{◌≡◌, ℕ, zero, suc, ◌+◌, ◌<◌, ◌≤◌, ◌∷◌, [], List, map, length, get_or, option_map, cond, true, false, Bool, Option, Some, None, refl, subst, sym, ap, ◌∙◌, arith, inl, inr}
use Rattle.std.specs.Prelude.{bytes_eq, is_some, nat_lt, not, slice_get}
use Rattle.std.specs.Cmp.Lexicographic.{nat_list_cmp_total}
use Rattle.std.specs.FinMap as table
use Rattle.std.specs.FinMap.{nat_cmp-IsAntisymmetric, slice_cmp-IsAntisymmetric}
use Rattle.std.specs.FinMap.Entries.{below_all, is_sorted}
use Rattle.std.specs.List.{AllByRecursion, find as find_first, list_any, position_or_len}
use Rattle.std.specs.List.Sorted.{IsStrictlySortedBy}
use Rattle.std.specs.Ordering.{eq_by_cmp, is_lt, on}
use Rattle.std.specs.declared.cmp.Ordering.TheVariants.{Less}
use Rattle.std.proofs.lemmas.Bool.{and_from as both, cases_Bool}
use Rattle.std.proofs.lemmas.Bool.Decides.{nat_tests}
use Rattle.std.proofs.lemmas.List.{length-map}
use Rattle.std.proofs.lemmas.Map.Text.{is_eq-slice_cmp}
use Rattle.gtfs_field.specs.TextOrder.{text_cmp}
use Rattle.gtfs_schema.specs.declared.id_row.IdRow.{IdRow}
use Rattle.gtfs_schema.specs.steps.IdRows.{id_and_row, id_of, listed_row}
use Rattle.gtfs_schema.specs.FieldValues.{has_control}
use Rattle.std.specs.List.{All, list_all}
use Rattle.std.proofs.lemmas.Bool.{not-true}
use Rattle.std.proofs.lemmas.List.Folds.{list_all-map}
use Rattle.std.proofs.lemmas.List.Sums.{AllPass-from_list_all}
use Rattle.gtfs_schema.specs.steps.Ids.{FirstRows, IsIdIndex, are_clear, first_row_with, ids_of, number_with, rows_are_clear, rows_by_number}
use Rattle.gtfs_schema.proofs.IdFacts.{earlier, row_listed}
use Rattle.std.proofs.lemmas.List.Quantifiers.{position-Some}
use Rattle.std.proofs.lemmas.Option.{slice_get-get_or}
use Rattle.gtfs_field.proofs.ListFacts.{any_alike, position_any as is_placed}
use Rattle.gtfs_schema.proofs.NamedFacts.{text_turned}
use Rattle.gtfs_schema.proofs.SiteFacts.{text_is}

-- ---- rows ascending by their ids are the entries of a map

below : (r : IdRow) (rs : List IdRow) → AllByRecursion (λ s. on id_of text_cmp r s ≡ Less) rs → below_all text_cmp (id_of r) (map id_and_row rs) ≡ true
below r [] h = refl
below r (s ∷ rs) h = both (is_lt (text_cmp (id_of r) (id_of s))) (below_all text_cmp (id_of r) (map id_and_row rs)) (ap is_lt h.0) (below r rs h.1)

ascend : (rs : List IdRow) → IsStrictlySortedBy (on id_of text_cmp) rs → is_sorted text_cmp (map id_and_row rs) ≡ true
unfolding IsStrictlySortedBy
ascend [] h = refl
ascend (r ∷ rs) h = both (below_all text_cmp (id_of r) (map id_and_row rs)) (is_sorted text_cmp (map id_and_row rs)) (below r rs h.0) (ascend rs h.1)

module _ (i : FirstRows) (listed : List IdRow) (index : IsIdIndex i listed) where
  as_map : i ≡ table.from_sorted {R = text_cmp} (map id_and_row listed)
  as_map =
      table.same_map nat_list_cmp_total (slice_cmp-IsAntisymmetric nat_cmp-IsAntisymmetric) _ _ (λ q.
      sym (index.first q)
      ∙ sym (row_listed listed q)
      ∙ table.get-from_entries nat_list_cmp_total (map id_and_row listed) q
      ∙ sym (table.get-from_sorted text_cmp (map id_and_row listed) q (rw (ascend listed index.ascending) tt)))

  keys_listed : (rs : List IdRow) → map (λ e. e.0) (map id_and_row rs) ≡ map id_of rs
  keys_listed [] = refl
  keys_listed (r ∷ rs) = ap (λ ids. id_of r ∷ ids) (keys_listed rs)

  -- the listed ids, in their order
  pub listed_ids : ids_of i ≡ map id_of listed
  listed_ids = ap table.keys as_map
      ∙ ap (map (λ e. e.0)) (table.entries-from_sorted text_cmp (map id_and_row listed) (rw (ascend listed index.ascending) tt))
      ∙ keys_listed listed

  rows_listed : (rs : List IdRow) → map (λ e. e.1) (map id_and_row rs) ≡ map (λ r. r.row) rs
  rows_listed [] = refl
  rows_listed (r ∷ rs) = ap (λ ns. r.row ∷ ns) (rows_listed rs)

  -- and their rows
  pub listed_rows : rows_by_number i ≡ map (λ r. r.row) listed
  listed_rows = ap table.values as_map
      ∙ ap (map (λ e. e.1)) (table.entries-from_sorted text_cmp (map id_and_row listed) (rw (ascend listed index.ascending) tt))
      ∙ rows_listed listed

-- ---- the rank of an id is its number

position_at : {X : Type 0} (p : X → Bool) (xs : List X) (at : ℕ) (x : X) → at < length xs → x ≡ get_or xs at x → p x ≡ true
    → ((k : ℕ) → k < at → p (get_or xs k x) ≡ false) → position_or_len p xs ≡ at
position_at p [] at x h is here before = absurd (omega arith)
position_at p (y ∷ ys) zero x h is here before = rw (← is, here) refl
position_at p (y ∷ ys) (suc at) x h is here before =
    let rest = position_at p ys at x (omega arith) is here (λ k l. before (suc k) (omega arith)) in
    rw (before 0 (omega arith)) (omega (arith, rest))

position_mapped : {X Y : Type 0} (f : X → Y) (p : Y → Bool) (xs : List X) → position_or_len p (map f xs) ≡ position_or_len (λ x. p (f x)) xs
position_mapped f p [] = refl
position_mapped f p (x ∷ xs) = ap (λ n. cond (not (p (f x))) (1 + n) 0) (position_mapped f p xs)

position_past : {X : Type 0} (p : X → Bool) (xs : List X) → find_first p xs ≡ None → length xs ≤ position_or_len p xs
position_past p [] none = omega arith
position_past p (x ∷ xs) none = elim (cases_Bool (p x)) [
  | inl here ↦ let some : find_first p (x ∷ xs) ≡ Some x = rw here refl in cc (sym some ∙ none)
  | inr later ↦
      let rest : find_first p xs ≡ None = sym (ap (λ b. cond b (Some x) (find_first p xs)) later) ∙ none in
      rw later (let past = position_past p xs rest in omega (arith, past))
]

no_row : (o : Option IdRow) → option_map (λ r. r.row) o ≡ None → o ≡ None
no_row None e = refl
no_row (Some r) e = cc e

module _ (i : FirstRows) (listed : List IdRow) (index : IsIdIndex i listed) (id : List ℕ) where
  abbrev has_id : IdRow → Bool
  has_id r = bytes_eq (id_of r) id

  rank : position_or_len (λ k. bytes_eq k id) (ids_of i) ≡ position_or_len has_id listed
  rank = ap (position_or_len (λ k. bytes_eq k id)) (listed_ids i listed index) ∙ position_mapped id_of (λ k. bytes_eq k id) listed

  many : length (ids_of i) ≡ length listed
  many = ap length (listed_ids i listed index) ∙ length-map listed id_of

  pub numbered_at : (at : ℕ) (r : IdRow) → at < length listed → r ≡ get_or listed at r → has_id r ≡ true → Some at ≡ number_with i id
  numbered_at at r within is here =
      let up = index.ascending in
      let below : nat_lt at (length listed) ≡ true = grind (arith, nat_tests, within) in
      let site : position_or_len has_id listed ≡ at = position_at has_id listed at r within is here (λ k l. earlier at r id listed up within is here k l) in
      sym (ap (λ n. cond (nat_lt n (length (ids_of i))) (Some n) None) (rank ∙ site)
      ∙ ap (λ m. cond (nat_lt at m) (Some at) None) many
      ∙ ap (λ b. cond b (Some at) None) below)

  pub no_number : listed_row listed id ≡ None → None ≡ number_with i id
  no_number none =
      let past = position_past has_id listed (no_row (find_first has_id listed) none) in
      let beyond : nat_lt (position_or_len has_id listed) (length listed) ≡ false = grind (arith, nat_tests, past) in
      sym (ap (λ n. cond (nat_lt n (length (ids_of i))) (Some n) None) rank
      ∙ ap (λ m. cond (nat_lt (position_or_len has_id listed) m) (Some (position_or_len has_id listed)) None) many
      ∙ ap (λ b. cond b (Some (position_or_len has_id listed)) None) beyond)

-- ---- ids that are there

module _ (i : FirstRows) (id : List ℕ) where
  key_there : list_any (eq_by_cmp text_cmp id) (ids_of i) ≡ is_some (first_row_with i id)
  key_there = sym (table.contains_key-keys i id)

  same_test : (k : List ℕ) → eq_by_cmp text_cmp id k ≡ bytes_eq k id
  same_test k = is_eq-slice_cmp id k ∙ text_turned id k

  some_if : (b : Bool) (n : ℕ) → is_some (cond b (Some n) None) ≡ b
  some_if true n = refl
  some_if false n = refl

  -- an id has a number where a row has it
  pub number_known : is_some (number_with i id) ≡ is_some (first_row_with i id)
  number_known =
      some_if (nat_lt (position_or_len (λ k. bytes_eq k id) (ids_of i)) (length (ids_of i))) (position_or_len (λ k. bytes_eq k id) (ids_of i))
      ∙ is_placed (λ k. bytes_eq k id) (ids_of i)
      ∙ any_alike (λ k. bytes_eq k id) (eq_by_cmp text_cmp id) (ids_of i) (λ k. sym (same_test k))
      ∙ key_there

  pub number_there : is_some (first_row_with i id) ≡ true → is_some (number_with i id) ≡ true
  number_there there = number_known ∙ there

  -- the number of an id is that of no other
  pub id_of_number : (n : ℕ) → number_with i id ≡ Some n → slice_get (ids_of i) n ≡ Some id
  id_of_number n e =
      let at = position-Some (λ k. bytes_eq k id) (ids_of i) n [] e in
      slice_get-get_or (ids_of i) n [] at.0 ∙ ap Some (text_is (get_or (ids_of i) n []) id at.1)

-- the ids have no control character where the listed ones have none
pub clear_listed : (i : FirstRows) (listed : List IdRow) → IsIdIndex i listed → rows_are_clear listed ≡ are_clear i
clear_listed i listed index =
    sym (ap (list_all (λ k. not (has_control k))) (listed_ids i listed index) ∙ list_all-map (λ k. not (has_control k)) id_of listed)

-- where no id has a control character, none that has a number has one
pub clear_numbered : (i : FirstRows) → are_clear i ≡ true → (id : List ℕ) (n : ℕ) → number_with i id ≡ Some n → has_control id ≡ false
clear_numbered i clear id n e =
    let at = position-Some (λ k. bytes_eq k id) (ids_of i) n [] e in
    let all : All (λ k. not (has_control k) ≡ true) (ids_of i) = AllPass-from_list_all (λ k. not (has_control k)) (ids_of i) clear in
    not-true (has_control id) (subst (λ (k : List ℕ). not (has_control k) ≡ true) (text_is (get_or (ids_of i) n []) id at.1) (all n [] at.0))

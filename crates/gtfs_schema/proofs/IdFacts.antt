-- The rows of a file with their ids: as they are listed, sorted and searched.
use Rattle.std.proofs.Common.{◌≡◌, ℕ, zero, suc, ◌+◌, ◌<◌, ◌∷◌, [], List, map, length, get_or, true, false, Bool, cond, bytes_eq, Option, Some, None, option_map, refl, sym, ap, ◌∙◌, arith, inl, inr}
use Rattle.std.specs.Prelude.{◌&&◌, ◌==◌, not}
use Rattle.std.specs.Cmp.{Equal-is, alike_right, on_total}
use Rattle.std.specs.Cmp.Lexicographic.{nat_list_cmp_total}
use Rattle.std.specs.FinMap as table
use Rattle.std.specs.FinMap.{nat_cmp-IsAntisymmetric, slice_cmp-IsAntisymmetric}
use Rattle.std.specs.FinMap.Entries.{find as find_first}
use Rattle.std.specs.List.{All, HoldsAt, dedup, dedup_from, filter, find}
use Rattle.std.specs.List.Sorted.{IsNonDecreasingBy, IsPartitionPoint, IsSorted, IsSortedBy, IsStable, IsStrictlySortedBy, ties}
use Rattle.std.specs.Ordering.{eq_by_cmp, is_eq, is_lt, on, ordering_index, ordering_reverse}
use Rattle.std.specs.declared.cmp.Ordering.{Ordering}
use Rattle.std.specs.declared.cmp.Ordering.TheVariants.{Less, Equal, Greater}
use Rattle.std.proofs.lemmas.Bool.{cases_Bool, cases_lt}
use Rattle.std.proofs.lemmas.List.{get_or_default}
use Rattle.std.proofs.lemmas.List.Kept.{IsStrictlySortedBy-dedup}
use Rattle.std.proofs.lemmas.List.Sorted.{searchable_from_sorted}
use Rattle.std.proofs.lemmas.Map.Keys.{Less-from_sorted}
use Rattle.std.proofs.lemmas.Map.Text.{is_eq-slice_cmp}
use Rattle.std.proofs.Math.Seq.{take-length}
use Rattle.gtfs_field.proofs.NumberFacts.{suc-not_zero}
use Rattle.gtfs_field.specs.TextOrder.{text_cmp}
use Rattle.gtfs_schema.specs.declared.id_row.IdRow.{IdRow}
use Rattle.gtfs_schema.specs.steps.Ids.{first_row_with, first_rows, listed_first_rows, FirstRows, ListsFirstRows}
use Rattle.gtfs_schema.specs.steps.IdRows.{id_and_row, id_of, listed_row}
use Rattle.gtfs_table.specs.Rows.{rows}
use Rattle.gtfs_table.specs.Tables.{Dataset}
use Rattle.gtfs_table.specs.declared.file.File.{File}
use Rattle.gtfs_schema.specs.RowConditions.{row_with, text_in}
use Rattle.gtfs_schema.proofs.NamedFacts.{text_turned}

-- ---- in the order of the file

-- the row of the first pair with an id
abbrev pub row_paired : List (List ℕ × ℕ) → List ℕ → Option ℕ
row_paired ps id = option_map (λ p. p.1) (find (λ p. bytes_eq p.0 id) ps)

pub paired_rows : (rs : List IdRow) (id : List ℕ) → row_paired (map id_and_row rs) id ≡ listed_row rs id
paired_rows [] id = refl
paired_rows (r ∷ rs) id = elim (cases_Bool (bytes_eq (id_of r) id)) [
  | inl here ↦ rw here refl
  | inr later ↦ rw later (paired_rows rs id)
]

pub paired_numbers : (f : ℕ → List ℕ) (ns : List ℕ) (id : List ℕ) → row_paired (map (λ n. (f n, n)) ns) id ≡ find (λ n. bytes_eq (f n) id) ns
paired_numbers f [] id = refl
paired_numbers f (n ∷ ns) id = elim (cases_Bool (bytes_eq (f n) id)) [
  | inl here ↦ rw here refl
  | inr later ↦ rw later (paired_numbers f ns id)
]

-- a map of the ids answers with the row of the first pair
first_paired : (ps : List (List ℕ × ℕ)) (id : List ℕ) → find_first text_cmp id ps ≡ row_paired ps id
first_paired [] id = refl
first_paired (p ∷ ps) id =
    let same : eq_by_cmp text_cmp id p.0 ≡ bytes_eq p.0 id = is_eq-slice_cmp id p.0 ∙ text_turned id p.0 in
    elim (cases_Bool (bytes_eq p.0 id)) [
      | inl here ↦ rw (same, here) refl
      | inr later ↦ rw (same, later) (first_paired ps id)
    ]

pub row_of_pairs : (ps : List (List ℕ × ℕ)) (id : List ℕ) → first_row_with (table.from_entries ps) id ≡ row_paired ps id
row_of_pairs ps id = table.get-from_entries nat_list_cmp_total ps id ∙ first_paired ps id

-- of the rows of a column, the first with an id
pub first_row_is : (d : Dataset) (x : File) (column id : List ℕ) → first_row_with (first_rows d x column) id ≡ row_with d x column id
first_row_is d x column id =
    row_of_pairs (map (λ n. (text_in d x n column, n)) (rows d x)) id ∙ paired_numbers (λ n. text_in d x n column) (rows d x) id

-- of rows as they are listed, the first
pub row_listed : (listed : List IdRow) (id : List ℕ) → first_row_with (listed_first_rows listed) id ≡ listed_row listed id
row_listed listed id = row_of_pairs (map id_and_row listed) id ∙ paired_rows listed id

-- where all rows are listed with their ids
pub lists_first : (d : Dataset) (x : File) (column : List ℕ) (listed : List IdRow)
    → map id_and_row listed ≡ map (λ n. (text_in d x n column, n)) (rows d x) → ListsFirstRows (first_rows d x column) listed
lists_first d x column listed same id = sym (row_listed listed id) ∙ ap (λ ps. first_row_with (table.from_entries ps) id) same

-- rows that list the first rows of ids are these
pub as_listed : (ids : FirstRows) (listed : List IdRow) → ListsFirstRows ids listed → listed_first_rows listed ≡ ids
as_listed ids listed lists =
    table.same_map nat_list_cmp_total (slice_cmp-IsAntisymmetric nat_cmp-IsAntisymmetric) _ _ (λ id. row_listed listed id ∙ lists id)

-- ---- sorted, each id once

same_find : {X : Type 0} (p : X → Bool) (xs : List X) → find p xs ≡ find (λ x. true) (filter p xs)
same_find p [] = refl
same_find p (x ∷ xs) = elim (cases_Bool (p x)) [
  | inl here ↦ rw here refl
  | inr later ↦ rw later (same_find p xs)
]

cond_twice : {X : Type 0} (b : Bool) (x y z : X) → cond b x z ≡ cond b x (cond b y z)
cond_twice true x y z = refl
cond_twice false x y z = refl

module _ {X : Type 0} (E : X → X → Bool) (p : X → Bool) (alike : (x y : X) → E x y ≡ true → p x ≡ p y) where
  find_from : (k : X) (xs : List X) → find p (dedup_from E k xs) ≡ find p (k ∷ xs)
  find_from k [] = refl
  find_from k (x ∷ xs) = elim (cases_Bool (E x k)) [
    | inl same ↦ rw (same, find_from k xs, alike x k same) (cond_twice (p k) (Some k) (Some x) (find p xs))
    | inr other ↦ rw (other, find_from x xs) refl
  ]

  find_dedup : (xs : List X) → find p (dedup E xs) ≡ find p xs
  find_dedup [] = refl
  find_dedup (x ∷ xs) = find_from x xs

abbrev pub row_cmp : IdRow → IdRow → Ordering
row_cmp = on id_of text_cmp

module _ (id : List ℕ) where
  abbrev has_id : IdRow → Bool
  has_id r = bytes_eq (id_of r) id

  same_id : (r : IdRow) → is_eq (text_cmp (id_of r) id) ≡ has_id r
  same_id r = is_eq-slice_cmp (id_of r) id

  -- some row with the id
  abbrev with_id : IdRow
  with_id = record { id = record { ref_ptr = (0, 0); now = id }; head = id; row = 0; copied = λ short. take-length id }

  neither_less : (r : Ordering) → (not (is_lt (ordering_reverse r)) && not (is_lt r)) ≡ is_eq r
  neither_less Less = refl
  neither_less Equal = refl
  neither_less Greater = refl

  tied : (r : IdRow) → ties (λ x y. is_lt (row_cmp x y)) with_id r ≡ has_id r
  tied r = rw (nat_list_cmp_total.antisymm id (id_of r)) (neither_less (text_cmp (id_of r) id) ∙ same_id r)

  kept_order : (xs ys : List IdRow) → IsStable row_cmp xs ys → filter has_id ys ≡ filter has_id xs
  kept_order xs ys stable =
      let tests : ties (λ x y. is_lt (row_cmp x y)) with_id ≡ has_id = λ i r. tied r i in
      rw tests at (stable with_id)

  alike_ids : (x y : IdRow) → eq_by_cmp row_cmp x y ≡ true → has_id x ≡ has_id y
  alike_ids x y e = sym (same_id x)
      ∙ ap is_eq (nat_list_cmp_total.congr (id_of x) (id_of y) id ((Equal-is (row_cmp x y)).0 e))
      ∙ same_id y

  -- sorted by ids, and each id once: its first row stays
  pub listed_sorted : (xs ys : List IdRow) → IsStable row_cmp xs ys → listed_row (dedup (eq_by_cmp row_cmp) ys) id ≡ listed_row xs id
  listed_sorted xs ys stable = ap (option_map (λ r. r.row)) (find_dedup (eq_by_cmp row_cmp) has_id alike_ids ys
      ∙ same_find has_id ys ∙ ap (find (λ r. true)) (kept_order xs ys stable) ∙ sym (same_find has_id xs))

pub ascending_once : (xs : List IdRow) → IsSorted row_cmp xs → IsStrictlySortedBy row_cmp (dedup (eq_by_cmp row_cmp) xs)
ascending_once xs sorted = IsStrictlySortedBy-dedup (on_total id_of nat_list_cmp_total) (λ x y. refl) xs sorted

-- ---- searched

ascends : (xs : List IdRow) → IsStrictlySortedBy row_cmp xs → IsSortedBy (λ a b. is_lt (text_cmp (id_of a) (id_of b))) xs
ascends xs up k d low h =
    let less = Less-from_sorted row_cmp xs k (k + 1) d up (omega arith) h in
    ap is_lt (nat_list_cmp_total.antisymm (id_of (get_or xs (k + 1) d)) (id_of (get_or xs k d)) ∙ ap ordering_reverse less)

find_at : {X : Type 0} (p : X → Bool) (xs : List X) (at : ℕ) (x : X) → at < length xs → x ≡ get_or xs at x → p x ≡ true
    → ((k : ℕ) → k < at → p (get_or xs k x) ≡ false) → find p xs ≡ Some x
find_at p [] at x h is here before = absurd (omega arith)
find_at p (y ∷ ys) zero x h is here before = rw (← is, here) refl
find_at p (y ∷ ys) (suc at) x h is here before = rw (before 0 (omega arith)) (find_at p ys at x (omega arith) is here (λ k l. before (suc k) (omega arith)))

find_none : {X : Type 0} (p : X → Bool) (xs : List X) → All (λ x. p x ≡ false) xs → find p xs ≡ None
find_none p [] h = refl
find_none p (x ∷ xs) h = rw (h 0 x (omega arith)) (find_none p xs (λ k d l. h (suc k) d (omega arith)))

module _ (id : List ℕ) (xs : List IdRow) (up : IsStrictlySortedBy row_cmp xs) where
  -- the row that a search ends at is the row with the id
  pub found : (at : ℕ) (x : IdRow) → at < length xs → HoldsAt (λ r. text_cmp (id_of r) id ≡ Equal) xs at → x ≡ get_or xs at x → listed_row xs id ≡ Some x.row
  found at x h tie is =
      let same : text_cmp (id_of (get_or xs at x)) id ≡ Equal = tie x in
      let here : has_id id x ≡ true = sym (same_id id x) ∙ ap (λ r. is_eq (text_cmp (id_of r) id)) is ∙ ap is_eq same in
      ap (option_map (λ r. r.row)) (find_at (has_id id) xs at x h is here (λ k l.
      sym (same_id id (get_or xs k x))
      ∙ ap is_eq (sym (alike_right nat_list_cmp_total (id_of (get_or xs at x)) id (id_of (get_or xs k x)) same) ∙ Less-from_sorted row_cmp xs k at x up l h)))

  -- a row that is listed with the id is the row with the id
  pub found_there : (at : ℕ) (x : IdRow) → at < length xs → x ≡ get_or xs at x → bytes_eq (id_of x) id ≡ true → listed_row xs id ≡ Some x.row
  found_there at x h is same =
      let here : text_cmp (id_of x) id ≡ Equal = (Equal-is (text_cmp (id_of x) id)).0 (same_id id x ∙ same) in
      found at x h (λ d. ap (λ r. text_cmp (id_of r) id) (get_or_default xs at d x h ∙ sym is) ∙ here) is

  -- and where it ends at none, there is none
  pub missing : (n : ℕ) → (IsNonDecreasingBy (λ r. ordering_index (text_cmp (id_of r) id)) xs
      → IsPartitionPoint (λ r. text_cmp (id_of r) id ≡ Less) (λ r. text_cmp (id_of r) id ≡ Greater) xs n) → listed_row xs id ≡ None
  missing n rank =
      let sides = rank (searchable_from_sorted nat_list_cmp_total id_of xs id (ascends xs up)) in
      ap (option_map (λ r. r.row)) (find_none (has_id id) xs (λ k x h. elim (cases_lt k n) [
        | inl before ↦ sym (same_id id (get_or xs k x)) ∙ ap is_eq (sides.0 k x (omega arith) before)
        | inr after ↦ sym (same_id id (get_or xs k x)) ∙ ap is_eq (sides.1 k x after h)
      ]))

-- no text is less than the empty one
not_below : (a b : List ℕ) → text_cmp a b ≡ Less → bytes_eq b [] ≡ false
not_below [] [] less = cc less
not_below (x ∷ a) [] less = cc less
not_below a (y ∷ b) less = refl

-- the empty id comes before all others: where the first row has another, none has it
pub missing_empty : (xs : List IdRow) → IsStrictlySortedBy row_cmp xs → ((d : IdRow) → 0 < length xs → bytes_eq (id_of (get_or xs 0 d)) [] ≡ false) → listed_row xs [] ≡ None
missing_empty xs up first =
    let later : (k : ℕ) (d : IdRow) → k < length xs → has_id [] (get_or xs k d) ≡ false = λ k d h. elim (cases_lt 0 k) [
      | inl after ↦ not_below (id_of (get_or xs 0 d)) (id_of (get_or xs k d)) (Less-from_sorted row_cmp xs 0 k d up after h)
      | inr here ↦ let zero : k ≡ 0 = omega arith in rw zero (first d (omega arith))
    ] in
    ap (option_map (λ r. r.row)) (find_none (has_id []) xs later)

-- the text without bytes
pub empty_text : (a : List ℕ) → bytes_eq a [] ≡ (length a == 0)
empty_text [] = refl
empty_text (x ∷ a) = sym (suc-not_zero (length a))

-- the rows before the one with an id have others
pub earlier : (at : ℕ) (x : IdRow) (id : List ℕ) (xs : List IdRow) → IsStrictlySortedBy row_cmp xs → at < length xs → x ≡ get_or xs at x → bytes_eq (id_of x) id ≡ true
    → (k : ℕ) → k < at → bytes_eq (id_of (get_or xs k x)) id ≡ false
earlier at x id xs up h is here k l =
    let tie : text_cmp (id_of x) id ≡ Equal = (Equal-is (text_cmp (id_of x) id)).0 (same_id id x ∙ here) in
    let same : text_cmp (id_of (get_or xs at x)) id ≡ Equal = ap (λ r. text_cmp (id_of r) id) (sym is) ∙ tie in
    sym (same_id id (get_or xs k x))
    ∙ ap is_eq (sym (alike_right nat_list_cmp_total (id_of (get_or xs at x)) id (id_of (get_or xs k x)) same) ∙ Less-from_sorted row_cmp xs k at x up l h)

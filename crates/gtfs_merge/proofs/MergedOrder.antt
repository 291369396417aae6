-- The merged rows of a kind: rows of two lists under new ids, those of B that have a twin left out, in the order of their ids.
use Rattle.std.proofs.Common.{◌≡◌, ◌<◌, ◌+◌, ℕ, zero, suc, Bool, true, false, not, List, [], ◌∷◌, ◌++◌, Some, Option, refl, sym, ap, ◌∙◌, subst, inl, inr, ◌⊎◌, length, map, filter, get_or, option_map, true≢false, arith}
use Rattle.std.specs.List.{All, AllPairs, Contains, range_with_len, slice_get}
use Rattle.std.specs.List.Sorted.{IsPermutation, IsSorted}
use Rattle.std.specs.Ordering.{on}
use Rattle.std.specs.declared.cmp.Ordering.TheVariants.{Less}
use Rattle.std.proofs.lemmas.Bool.{not-true}
use Rattle.std.proofs.lemmas.List.{length-map}
use Rattle.std.proofs.lemmas.List.Elements.{Contains-append_cases, Contains-append_left, Contains-append_right, Contains-get_or}
use Rattle.std.proofs.lemmas.List.FromFn.{get_or-range_with_len, length-range_with_len}
use Rattle.std.proofs.lemmas.List.Kept.{AllPairs-filter}
use Rattle.std.proofs.lemmas.Option.{slice_get-get_or}
use Rattle.gtfs_field.specs.TextOrder.{text_cmp}
use Rattle.gtfs_rows.specs.TransferOrder.{Ascends}
use Rattle.gtfs_rows.proofs.SameElements.{contains-filter, contains-from_filter, contains-from_map, contains-map, pairs-map, same-from_permutation}
use Rattle.gtfs_rows.proofs.Members.{In, map-In}
use Rattle.gtfs_merge.specs.MergeEntries.{Entry}
use Rattle.gtfs_merge.specs.Merged.{by_id}
use Rattle.gtfs_merge.specs.declared.kind.Side.{Side}
use Rattle.gtfs_merge.specs.declared.kind.Side.TheVariants as side
use Rattle.gtfs_merge.proofs.ByNewIds.{AreById, HasEntry, IsRow, by_id-from}
use Rattle.gtfs_merge.proofs.Distinct.{ascends-distinct, less-apart, pairs-append}
use Rattle.gtfs_merge.proofs.Dropped.{by_id-dropped}

-- ---- numbers below a count

pub in-range : (count n : ℕ) → Contains (range_with_len 0 count) n → n < count
in-range count n at =
    let within : at.0 < count = omega (arith, at.1, length-range_with_len 0 count) in
    let is : 0 + at.0 ≡ n = sym (get_or-range_with_len 0 count at.0 n within) ∙ at.2 in
    omega arith

pub range-has : (count n : ℕ) → n < count → Contains (range_with_len 0 count) n
range-has count n within =
    let is : 0 + n ≡ n = omega arith in
    (n, omega (arith, length-range_with_len 0 count), get_or-range_with_len 0 count n n within ∙ is)

range-pairs : (count : ℕ) → AllPairs (λ m n. (m < n) × (n < count)) (range_with_len 0 count)
range-pairs count i j d before within =
    let below : j < count = omega (arith, within, length-range_with_len 0 count) in
    let inside : i < count = omega arith in
    let first : get_or (range_with_len 0 count) i d ≡ 0 + i = get_or-range_with_len 0 count i d inside in
    let second : get_or (range_with_len 0 count) j d ≡ 0 + j = get_or-range_with_len 0 count j d below in
    (omega arith, omega arith)

-- a row at an index of a list, and its id
pub record IsAt {X : Type 0} (id : X → List ℕ) (rows : List X) (n : ℕ) (name : List ℕ) : Type 0 where
  pub row : X
  pub at : slice_get rows n ≡ Some row
  pub among : Contains rows row
  pub own : id row ≡ name

pub row-at : {X : Type 0} (id : X → List ℕ) (rows : List X) (n : ℕ) → n < length rows → IsAt id rows n (get_or (map id rows) n [])
row-at id [] n within = absurd (omega arith)
row-at id (x ∷ rows) zero within = record { row = x; at = refl; among = (0, omega arith, refl); own = refl }
row-at id (x ∷ rows) (suc n) within =
    let rest = row-at id rows n (omega arith) in
    let there = rest.among.1 in
    record { row = rest.row; at = rest.at; among = (suc rest.among.0, omega arith, rest.among.2); own = rest.own }

pub at-index : {X : Type 0} (rows : List X) (x : X) → Contains rows x → (n : ℕ) × (n < length rows) × (slice_get rows n ≡ Some x)
at-index rows x at = (at.0, at.1, slice_get-get_or rows at.0 x at.1 ∙ ap Some at.2)

-- ---- both lists

-- the rows of both feeds of a kind under their new ids
pub record IsMerge {X : Type 0} (id : X → List ℕ) (f g : X → X) (rows_a rows_b : List X) (rename_a rename_b : List ℕ → List ℕ) (olds_a olds_b : List (List ℕ)) (has_twin : List ℕ → Bool) : Type 0 where
  pub named_a : map id rows_a ≡ olds_a
  pub named_b : map id rows_b ≡ olds_b
  pub up_a : AllPairs (λ s t. text_cmp s t ≡ Less) olds_a
  pub up_b : AllPairs (λ s t. text_cmp s t ≡ Less) olds_b
  pub new_a : (r : X) → id (f r) ≡ rename_a (id r)
  pub new_b : (r : X) → id (g r) ≡ rename_b (id r)
  pub apart_a : (m n : ℕ) → m < length olds_a → n < length olds_a → rename_a (get_or olds_a m []) ≡ rename_a (get_or olds_a n []) → get_or olds_a m [] ≡ get_or olds_a n []
  -- rows of B without a twin stay apart
  pub apart_b : (m n : ℕ) → m < length olds_b → n < length olds_b → has_twin (get_or olds_b m []) ≡ false → has_twin (get_or olds_b n []) ≡ false → rename_b (get_or olds_b m []) ≡ rename_b (get_or olds_b n []) → get_or olds_b m [] ≡ get_or olds_b n []
  -- a row of B with an id of A has a twin
  pub meet : (m n : ℕ) → m < length olds_a → n < length olds_b → rename_a (get_or olds_a m []) ≡ rename_b (get_or olds_b n []) → has_twin (get_or olds_b n []) ≡ true
  -- a twin is a row of A under the same new id
  pub twin : (s : X) → In s rows_b → has_twin (id s) ≡ true → (r : X) × In r rows_a × (id (f r) ≡ id (g s))

module _ {X : Type 0} (id : X → List ℕ) (f g : X → X) (rows_a rows_b : List X) (rename_a rename_b : List ℕ → List ℕ) (olds_a olds_b : List (List ℕ)) (has_twin : List ℕ → Bool)
    (merge : IsMerge id f g rows_a rows_b rename_a rename_b olds_a olds_b has_twin)
    (name : Side → ℕ → List ℕ) (name_a : (n : ℕ) → name side.A n ≡ rename_a (get_or olds_a n [])) (name_b : (n : ℕ) → name side.B n ≡ rename_b (get_or olds_b n []))
    (value : Side → ℕ → Option X) (value_a : (n : ℕ) → value side.A n ≡ option_map f (slice_get rows_a n)) (value_b : (n : ℕ) → value side.B n ≡ option_map g (slice_get rows_b n)) where
  abbrev pub entry : Side → ℕ → Entry
  entry s n = record { id = name s n; side = s; number = n }

  abbrev pub is_left : ℕ → Bool
  is_left n = not (has_twin (get_or olds_b n []))

  abbrev pub entries_a : List Entry
  entries_a = map (entry side.A) (range_with_len 0 (length olds_a))

  abbrev pub entries_b : List Entry
  entries_b = map (entry side.B) (filter is_left (range_with_len 0 (length olds_b)))

  abbrev row_left : X → Bool
  row_left s = not (has_twin (id s))

  abbrev kept_b : List X
  kept_b = filter row_left rows_b

  abbrev sources : List X
  sources = map f rows_a ++ map g kept_b

  abbrev entry_id : Entry → List ℕ
  entry_id e = e.id

  abbrev row_of : Entry → Option X
  row_of e = value e.side e.number

  -- ---- ids of entries are distinct

  differ-a : (m n : ℕ) → (m < n) × (n < length olds_a) → name side.A m ≡ name side.A n → ⊥
  differ-a m n within same =
      let first = within.0 in
      let second = within.1 in
      less-apart (merge.up_a m n [] first second) (merge.apart_a m n (omega arith) second (sym (name_a m) ∙ same ∙ name_a n))

  differ-b : (m n : ℕ) → (m < n) × (n < length olds_b) → has_twin (get_or olds_b m []) ≡ false → has_twin (get_or olds_b n []) ≡ false → name side.B m ≡ name side.B n → ⊥
  differ-b m n within left_m left_n same =
      let first = within.0 in
      let second = within.1 in
      less-apart (merge.up_b m n [] first second) (merge.apart_b m n (omega arith) second left_m left_n (sym (name_b m) ∙ same ∙ name_b n))

  abbrev Differ : Entry → Entry → Type 0
  Differ e o = e.id ≡ o.id → ⊥

  pairs-alike : {A : Type 0} (P Q : A → A → Type 0) (xs : List A) → ((x y : A) → P x y → Q x y) → AllPairs P xs → AllPairs Q xs
  pairs-alike P Q xs more up i j d before within = more (get_or xs i d) (get_or xs j d) (up i j d before within)

  pub record IsOfA (e : Entry) : Type 0 where
    pub number : ℕ
    pub within : number < length olds_a
    pub is : entry side.A number ≡ e

  pub record IsOfB (e : Entry) : Type 0 where
    pub number : ℕ
    pub within : number < length olds_b
    pub left : has_twin (get_or olds_b number []) ≡ false
    pub is : entry side.B number ≡ e

  of-a : (e : Entry) → Contains entries_a e → IsOfA e
  of-a e at =
      let n = contains-from_map (entry side.A) (range_with_len 0 (length olds_a)) e at in
      record { number = n.0; within = in-range (length olds_a) n.0 n.1.0; is = n.1.1 }

  of-b : (e : Entry) → Contains entries_b e → IsOfB e
  of-b e at =
      let n = contains-from_map (entry side.B) (filter is_left (range_with_len 0 (length olds_b))) e at in
      let kept = contains-from_filter is_left (range_with_len 0 (length olds_b)) n.0 n.1.0 in
      record { number = n.0; within = in-range (length olds_b) n.0 kept.0; left = not-true _ kept.1; is = n.1.1 }

  across : (e o : Entry) → Contains entries_a e → Contains entries_b o → Differ e o
  across e o first second same =
      let u = of-a e first in
      let v = of-b o second in
      let named : name side.A u.number ≡ name side.B v.number = ap (λ w. w.id) u.is ∙ same ∙ sym (ap (λ w. w.id) v.is) in
      true≢false (sym (merge.meet u.number v.number u.within v.within (sym (name_a u.number) ∙ named ∙ name_b v.number)) ∙ v.left)

  -- numbers of rows without twins
  left-pairs : AllPairs (λ m n. name side.B m ≡ name side.B n → ⊥) (filter is_left (range_with_len 0 (length olds_b)))
  left-pairs i j d before within =
      let ns = filter is_left (range_with_len 0 (length olds_b)) in
      let pairs : AllPairs (λ m n. (m < n) × (n < length olds_b)) ns = AllPairs-filter (λ m n. (m < n) × (n < length olds_b)) is_left (range_with_len 0 (length olds_b)) (range-pairs (length olds_b)) in
      let inside : i < length ns = omega (arith, before, within) in
      let first = contains-from_filter is_left (range_with_len 0 (length olds_b)) (get_or ns i d) (Contains-get_or ns i d inside) in
      let second = contains-from_filter is_left (range_with_len 0 (length olds_b)) (get_or ns j d) (Contains-get_or ns j d within) in
      differ-b (get_or ns i d) (get_or ns j d) (pairs i j d before within) (not-true _ first.1) (not-true _ second.1)

  distinct : AllPairs Differ (entries_a ++ entries_b)
  distinct = pairs-append Differ entries_a entries_b
      (pairs-map (entry side.A) Differ (range_with_len 0 (length olds_a)) (pairs-alike _ _ (range_with_len 0 (length olds_a)) differ-a (range-pairs (length olds_a))))
      (pairs-map (entry side.B) Differ (filter is_left (range_with_len 0 (length olds_b))) left-pairs)
      across

  -- ---- each entry has its row, and each row its entry

  module _ (es : List Entry) (moved : IsPermutation (entries_a ++ entries_b) es) (sorted : IsSorted (on entry_id text_cmp) es) where
    pub ascend : Ascends (on entry_id text_cmp) es
    ascend = ascends-distinct entry_id (entries_a ++ entries_b) es distinct moved sorted

    pub side-of : (e : Entry) → Contains es e → IsOfA e ⊎ IsOfB e
    side-of e at = elim (Contains-append_cases entries_a entries_b e ((same-from_permutation (entries_a ++ entries_b) es moved).back e at)) as (λ w. IsOfA e ⊎ IsOfB e) [
      | inl first ↦ inl (of-a e first)
      | inr second ↦ inr (of-b e second)
    ]

    -- the entries of A's rows, and of B's rows without a twin
    pub has-a : (n : ℕ) → n < length olds_a → Contains es (entry side.A n)
    has-a n within = (same-from_permutation (entries_a ++ entries_b) es moved).there (entry side.A n)
        (Contains-append_left entries_a entries_b (entry side.A n) (contains-map (entry side.A) (range_with_len 0 (length olds_a)) n (range-has (length olds_a) n within)))

    pub has-b : (n : ℕ) → n < length olds_b → has_twin (get_or olds_b n []) ≡ false → Contains es (entry side.B n)
    has-b n within left = (same-from_permutation (entries_a ++ entries_b) es moved).there (entry side.B n)
        (Contains-append_right entries_a entries_b (entry side.B n) (contains-map (entry side.B) (filter is_left (range_with_len 0 (length olds_b))) n
        (contains-filter is_left (range_with_len 0 (length olds_b)) n (ap not left) (range-has (length olds_b) n within))))

    row-a : (e : Entry) → IsOfA e → IsRow entry_id id row_of sources e
    row-a e u =
        let count : length olds_a ≡ length rows_a = ap length (sym merge.named_a) ∙ length-map rows_a id in
        let w = row-at id rows_a u.number (omega (arith, u.within)) in
        record {
          row = f w.row;
          among = Contains-append_left (map f rows_a) (map g kept_b) (f w.row) (contains-map f rows_a w.row w.among);
          is = ap row_of (sym u.is) ∙ value_a u.number ∙ ap (option_map f) w.at;
          own = merge.new_a w.row ∙ ap rename_a (w.own ∙ ap (λ xs. get_or xs u.number []) merge.named_a) ∙ sym (name_a u.number) ∙ ap entry_id u.is;
        }

    row-b : (e : Entry) → IsOfB e → IsRow entry_id id row_of sources e
    row-b e v =
        let count : length olds_b ≡ length rows_b = ap length (sym merge.named_b) ∙ length-map rows_b id in
        let w = row-at id rows_b v.number (omega (arith, v.within)) in
        let named : id w.row ≡ get_or olds_b v.number [] = w.own ∙ ap (λ xs. get_or xs v.number []) merge.named_b in
        let kept = contains-filter row_left rows_b w.row (ap (λ x. not (has_twin x)) named ∙ ap not v.left) w.among in
        record {
          row = g w.row;
          among = Contains-append_right (map f rows_a) (map g kept_b) (g w.row) (contains-map g kept_b w.row kept);
          is = ap row_of (sym v.is) ∙ value_b v.number ∙ ap (option_map g) w.at;
          own = merge.new_b w.row ∙ ap rename_b named ∙ sym (name_b v.number) ∙ ap entry_id v.is;
        }

    each : (e : Entry) → Contains es e → IsRow entry_id id row_of sources e
    each e at = elim (side-of e at) as (λ w. IsRow entry_id id row_of sources e) [
      | inl u ↦ row-a e u
      | inr v ↦ row-b e v
    ]

    entry-a : (r : X) → Contains rows_a r → HasEntry entry_id id row_of es (f r)
    entry-a r at =
        let count : length olds_a ≡ length rows_a = ap length (sym merge.named_a) ∙ length-map rows_a id in
        let w = at-index rows_a r at in
        let within = w.1 in
        record { entry = entry side.A w.0; among = has-a w.0 (omega arith); is = value_a w.0 ∙ ap (option_map f) w.2 }

    entry-b : (s : X) → Contains kept_b s → HasEntry entry_id id row_of es (g s)
    entry-b s at =
        let count : length olds_b ≡ length rows_b = ap length (sym merge.named_b) ∙ length-map rows_b id in
        let from = contains-from_filter row_left rows_b s at in
        let w = at-index rows_b s from.0 in
        let within = w.1 in
        let u = row-at id rows_b w.0 within in
        let same : u.row ≡ s = some-row u.row s (sym u.at ∙ w.2) in
        let named : get_or olds_b w.0 [] ≡ id s = ap (λ xs. get_or xs w.0 []) (sym merge.named_b) ∙ sym u.own ∙ ap id same in
        record { entry = entry side.B w.0; among = has-b w.0 (omega arith) (ap has_twin named ∙ not-true _ from.1); is = value_b w.0 ∙ ap (option_map g) w.2 }
      where
        some-row : (x y : X) → Some x ≡ Some y → x ≡ y
        some-row x y e = cc

    back : (x : X) → Contains sources x → HasEntry entry_id id row_of es x
    back x at = elim (Contains-append_cases (map f rows_a) (map g kept_b) x at) as (λ w. HasEntry entry_id id row_of es x) [
      | inl first ↦ let r = contains-from_map f rows_a x first in subst (HasEntry entry_id id row_of es) r.1.1 (entry-a r.0 r.1.0)
      | inr second ↦ let r = contains-from_map g kept_b x second in subst (HasEntry entry_id id row_of es) r.1.1 (entry-b r.0 r.1.0)
    ]

    -- a row of B that has a twin changes nothing
    twins-dropped : by_id id (map f rows_a ++ map g rows_b) ≡ by_id id sources
    twins-dropped = by_id-dropped id g (map f rows_a) rows_b row_left (λ s i e.
        let r = merge.twin s i (left-false (has_twin (id s)) e) in
        (f r.0, map-In f rows_a r.0 r.1, r.2))
      where
        left-false : (b : Bool) → not b ≡ false → b ≡ true
        left-false true e = refl
        left-false false e = sym e

    pub rows-by_id : AreById entry_id id row_of (map f rows_a ++ map g rows_b) es
    rows-by_id =
        let by = by_id-from entry_id id row_of sources es ascend each back in
        record { listed = ap (map Some) twins-dropped ∙ by.listed; ids = by.ids ∙ ap (map id) (sym twins-dropped) }

    -- the number of an entry is that of a row of its side
    pub within-sides : (count : Side → ℕ) → count side.A ≡ length olds_a → count side.B ≡ length olds_b → All (λ e. e.number < count e.side) es
    within-sides count first second k d inside =
        elim (side-of (get_or es k d) (Contains-get_or es k d inside)) as (λ w. (get_or es k d).number < count (get_or es k d).side) [
          | inl u ↦ subst (λ (e : Entry). e.number < count e.side) u.is (subst (λ n. u.number < n) (sym first) u.within)
          | inr v ↦ subst (λ (e : Entry). e.number < count e.side) v.is (subst (λ n. v.number < n) (sym second) v.within)
        ]

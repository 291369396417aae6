-- Rows that stand ascending by their ids, and the elements of the lists that they hold.
use Rattle.std.proofs.Common.{◌≡◌, ◌<◌, ℕ, zero, suc, List, [], ◌∷◌, ◌++◌, length, get_or, map, true, false, Bool, Some, refl, sym, ap, ◌∙◌, arith, inl, inr, append-nil, subst}
use Rattle.std.specs.Prelude.{bytes_eq, filter, find, flat_map}
use Rattle.std.specs.FinMap as table
use Rattle.std.specs.FinMap.{slice_cmp-IsAntisymmetric, nat_cmp-IsAntisymmetric}
use Rattle.std.specs.Cmp.{tied_itself}
use Rattle.std.specs.Cmp.Lexicographic.{nat_list_cmp_total}
use Rattle.std.specs.List.{All, AllPairs, Contains}
use Rattle.std.specs.declared.cmp.Ordering.TheVariants.{Less, Equal}
use Rattle.std.proofs.lemmas.Bool.{cases_Bool, false_from_ne_true, both_ways}
use Rattle.std.proofs.lemmas.List.{map-append}
use Rattle.std.proofs.lemmas.List.Elements.{filter-append, All-head, All-tail, Contains-append_cases, Contains-append_left, Contains-append_right, Contains-get_or, All-append, All-contains}
use Rattle.std.proofs.lemmas.List.Kept.{AllPairs-cons}
use Rattle.gtfs_field.specs.TextOrder.{text_cmp}
use Rattle.gtfs_schema.proofs.SiteFacts.{text_is, text_itself}
use Rattle.gtfs_rows.specs.RowCells.{held_by}
use Rattle.gtfs_rows.proofs.SameElements.{pairs-head, pairs-tail, contains-none, contains-first, contains-later, contains-cases, contains-map, contains-from_map, pairs-map}

pub text_antisymmetric : table.IsAntisymmetric text_cmp
text_antisymmetric = slice_cmp-IsAntisymmetric nat_cmp-IsAntisymmetric

-- a text before another is another
pub apart : (a b : List ℕ) → text_cmp a b ≡ Less → bytes_eq a b ≡ false
apart a b less = false_from_ne_true (bytes_eq a b) (λ e.
    let same : a ≡ b = text_is a b e in
    let tie : text_cmp a b ≡ Equal = ap (text_cmp a) (sym same) ∙ tied_itself nat_list_cmp_total a in
    cc)

pub apart_turned : (a b : List ℕ) → text_cmp a b ≡ Less → bytes_eq b a ≡ false
apart_turned a b less = false_from_ne_true (bytes_eq b a) (λ e.
    let same : b ≡ a = text_is b a e in
    let tie : text_cmp a b ≡ Equal = ap (text_cmp a) same ∙ tied_itself nat_list_cmp_total a in
    cc)

pub filter_none : {X : Type 0} (p : X → Bool) (xs : List X) → All (λ x. p x ≡ false) xs → filter p xs ≡ []
filter_none p [] none = refl
filter_none p (x ∷ xs) none = rw (All-head (λ y. p y ≡ false) x xs none) (filter_none p xs (All-tail (λ y. p y ≡ false) x xs none))

module _ {X : Type 0} (id : X → List ℕ) where
  abbrev pub Rises : List X → Type 0
  Rises xs = AllPairs (λ x y. text_cmp (id x) (id y) ≡ Less) xs

  below : (x : X) (xs : List X) → Rises (x ∷ xs) → All (λ y. text_cmp (id x) (id y) ≡ Less) xs
  below x xs up = pairs-head (λ a b. text_cmp (id a) (id b) ≡ Less) x xs up

  -- one row has the id of a row
  pub only_one : (xs : List X) (k : ℕ) (d : X) → k < length xs → Rises xs → filter (λ x. bytes_eq (id (get_or xs k d)) (id x)) xs ≡ get_or xs k d ∷ []
  only_one [] k d within up = absurd (omega arith)
  only_one (x ∷ xs) zero d within up =
      rw (text_itself (id x)) (ap (λ ys. x ∷ ys) (filter_none (λ y. bytes_eq (id x) (id y)) xs (λ k e h. apart (id x) (id (get_or xs k e)) (below x xs up k e h))))
  only_one (x ∷ xs) (suc k) d within up =
      let inside : k < length xs = omega arith in
      let other = apart_turned (id x) (id (get_or xs k d)) (below x xs up k d inside) in
      rw other (only_one xs k d inside (pairs-tail (λ a b. text_cmp (id a) (id b) ≡ Less) x xs up))

  -- the row of an id is found at its index
  pub found_at : (xs : List X) (k : ℕ) (d : X) → k < length xs → Rises xs → find (λ x. bytes_eq (id x) (id (get_or xs k d))) xs ≡ Some (get_or xs k d)
  found_at [] k d within up = absurd (omega arith)
  found_at (x ∷ xs) zero d within up = rw (text_itself (id x)) refl
  found_at (x ∷ xs) (suc k) d within up =
      let inside : k < length xs = omega arith in
      let other = apart (id x) (id (get_or xs k d)) (below x xs up k d inside) in
      rw other (found_at xs k d inside (pairs-tail (λ a b. text_cmp (id a) (id b) ≡ Less) x xs up))

  module _ {Y : Type 0} (of : X → List Y) where
    abbrev has : List ℕ → List ℕ × Y → Bool
    has q p = bytes_eq q p.0

    abbrev taken : List (List ℕ × Y) → List Y
    taken ps = map (λ p. p.1) ps

    own : (q : List ℕ) (x : X) (ys : List Y) → bytes_eq q (id x) ≡ true → taken (filter (has q) (map (λ y. (id x, y)) ys)) ≡ ys
    own q x [] here = refl
    own q x (y ∷ ys) here = rw here (ap (λ zs. y ∷ zs) (own q x ys here))

    others : (q : List ℕ) (x : X) (ys : List Y) → bytes_eq q (id x) ≡ false → taken (filter (has q) (map (λ y. (id x, y)) ys)) ≡ []
    others q x [] other = refl
    others q x (y ∷ ys) other = rw other (others q x ys other)

    held : (q : List ℕ) (xs : List X) → taken (filter (has q) (held_by id of xs)) ≡ flat_map of (filter (λ x. bytes_eq q (id x)) xs)
    held q [] = refl
    held q (x ∷ xs) =
        ap taken (filter-append (has q) (map (λ y. (id x, y)) (of x)) (held_by id of xs))
        ∙ map-append (λ p. p.1) (filter (has q) (map (λ y. (id x, y)) (of x))) (filter (has q) (held_by id of xs))
        ∙ elim (cases_Bool (bytes_eq q (id x))) [
          | inl here ↦ rw here (ap (λ ys. ys ++ taken (filter (has q) (held_by id of xs))) (own q x (of x) here) ∙ ap (λ zs. of x ++ zs) (held q xs))
          | inr other ↦ rw other (ap (λ ys. ys ++ taken (filter (has q) (held_by id of xs))) (others q x (of x) other) ∙ held q xs)
        ]

    -- of the elements that all rows hold, those with a row's id are its own
    pub held_at : (xs : List X) (k : ℕ) (d : X) → k < length xs → Rises xs → taken (filter (has (id (get_or xs k d))) (held_by id of xs)) ≡ of (get_or xs k d)
    held_at xs k d within up = held (id (get_or xs k d)) xs ∙ ap (flat_map of) (only_one xs k d within up) ∙ append-nil (of (get_or xs k d))

-- ---- which elements all rows hold

module _ {X Y : Type 0} (id : X → List ℕ) (of : X → List Y) where
  -- the row that holds an element
  pub record IsHeld (xs : List X) (q : List ℕ) (y : Y) : Type 0 where
    pub row : X
    pub there : Contains xs row
    pub has_it : Contains (of row) y
    pub named : q ≡ id row

  pub held_member : (xs : List X) (p : List ℕ × Y) → Contains (held_by id of xs) p → IsHeld xs p.0 p.1
  held_member [] p at = absurd (contains-none p at)
  held_member (x ∷ xs) p at = elim (Contains-append_cases (map (λ y. (id x, y)) (of x)) (held_by id of xs) p at) [
    | inl here ↦
        let from = contains-from_map (λ y. (id x, y)) (of x) p here in
        record {
          row = x;
          there = contains-first x x xs refl;
          has_it = subst (Contains (of x)) (ap (λ z. z.1) from.1.1) from.1.0;
          named = ap (λ z. z.0) (sym from.1.1);
        }
    | inr later ↦ let rest = held_member xs p later in record { row = rest.row; there = contains-later rest.row x xs rest.there; has_it = rest.has_it; named = rest.named }
  ]

  pub held_has : (xs : List X) (x : X) (y : Y) → Contains xs x → Contains (of x) y → Contains (held_by id of xs) (id x, y)
  held_has [] x y at mine = absurd (contains-none x at)
  held_has (z ∷ xs) x y at mine = elim (contains-cases x z xs at) [
    | inl same ↦ Contains-append_left (map (λ w. (id z, w)) (of z)) (held_by id of xs) (id x, y)
        (let pair : List ℕ × Y = (id x, y) in subst (λ (u : X). Contains (map (λ w. (id u, w)) (of u)) pair) (sym same) (contains-map (λ w. (id x, w)) (of x) y mine))
    | inr later ↦ Contains-append_right (map (λ w. (id z, w)) (of z)) (held_by id of xs) (id x, y) (held_has xs x y later mine)
  ]

-- ---- elements of one row stand in the order of its list, and no other row has its id

module _ {X : Type 0} (R : X → X → Type 0) where
  pairs-append : (xs ys : List X) → AllPairs R xs → AllPairs R ys → ((x y : X) → Contains xs x → Contains ys y → R x y) → AllPairs R (xs ++ ys)
  pairs-append [] ys first second across = second
  pairs-append (x ∷ xs) ys first second across =
      AllPairs-cons R x (xs ++ ys)
      (All-append (R x) xs ys (pairs-head R x xs first) (λ k d h. across x (get_or ys k d) (contains-first x x xs refl) (Contains-get_or ys k d h)))
      (pairs-append xs ys (pairs-tail R x xs first) second (λ a b at bt. across a b (contains-later a x xs at) bt))

module _ {X Y : Type 0} (id : X → List ℕ) (of : X → List Y) (S : Y → Y → Type 0) where
  abbrev pub Follows : List ℕ × Y → List ℕ × Y → Type 0
  Follows p q = bytes_eq p.0 q.0 ≡ true → S p.1 q.1

  pub held_pairs : (xs : List X) → Rises id xs → ((k : ℕ) (d : X) → k < length xs → AllPairs S (of (get_or xs k d))) → AllPairs Follows (held_by id of xs)
  held_pairs [] up each = λ i j d h l. absurd (omega arith)
  held_pairs (x ∷ xs) up each =
      pairs-append Follows (map (λ y. (id x, y)) (of x)) (held_by id of xs)
      (pairs-map (λ y. (id x, y)) Follows (of x) (λ i j d h l e. each 0 x (omega arith) i j d h l))
      (held_pairs xs (pairs-tail (λ a b. text_cmp (id a) (id b) ≡ Less) x xs up) (λ k d h. each (suc k) d (omega arith)))
      (λ p q at bt e.
      let from = contains-from_map (λ y. (id x, y)) (of x) p at in
      let held = held_member id of xs q bt in
      let less : text_cmp (id x) (id held.row) ≡ Less = All-contains (λ y. text_cmp (id x) (id y) ≡ Less) xs held.row (pairs-head (λ a b. text_cmp (id a) (id b) ≡ Less) x xs up) held.there in
      let other = apart (id x) (id held.row) less in
      let same : bytes_eq (id x) (id held.row) ≡ true = ap (λ z. bytes_eq z (id held.row)) (ap (λ z. z.0) from.1.1) ∙ ap (bytes_eq p.0) (sym held.named) ∙ e in
      absurd (both_ways (bytes_eq (id x) (id held.row)) other same))

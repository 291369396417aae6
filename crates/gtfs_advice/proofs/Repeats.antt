-- In a list by keys, and by numbers where keys are the same, an element has the same key as the one before it exactly where it
-- has that of an element with a lower number.
use Rattle.std.proofs.Common.{◌≡◌, ◌≢◌, ◌∙◌, ◌+◌, ◌-◌, ◌<◌, ◌≤◌, ℕ, zero, suc, Bool, true, false, List, [], ◌∷◌, Option, Some, None, length, get_or, drop, map, refl, sym, ap, subst, arith, inl, inr}
use Rattle.std.specs.Prelude.{◌==◌, ◌&&◌, nat_eq, nat_lt}
use Rattle.std.specs.Cmp.{IsTotalOrder, nat_cmp_total, on_total, then_total, tied_back}
use Rattle.std.specs.List.{AllPairs, IsDistinct, list_any, range_with_len, slice_get, slice_set, zip}
use Rattle.std.specs.List.Sorted.{IsPermutation, IsSorted}
use Rattle.std.specs.Option.{option_eq}
use Rattle.std.specs.Ordering.{is_eq, is_lt, nat_cmp, ordering_reverse, ordering_then}
use Rattle.std.specs.declared.cmp.Ordering.{Ordering}
use Rattle.std.specs.declared.cmp.Ordering.TheVariants.{Less, Equal, Greater}
use Rattle.std.proofs.lemmas.Bool.{and_parts, cases_order, eq-eqb, eqb-true, lt-ltb, ltb-true}
use Rattle.std.proofs.lemmas.Bool.Decides.{Decides-eqb, nat_tests}
use Rattle.std.proofs.lemmas.Grind.{get_or_after_one}
use Rattle.std.proofs.lemmas.List.{get_or_default, length-drop}
use Rattle.std.proofs.lemmas.List.Folds.{Any-from_list_any, list_any_at}
use Rattle.std.proofs.lemmas.List.Sorted.{Contains-permutation, IsPermutation-map, ranks_by, sorted_far}
use Rattle.std.proofs.lemmas.List.FromFn.{get_or-range_with_len, length-range_with_len}
use Rattle.std.proofs.lemmas.Map.Keys.{IsDistinct-IsPermutation}
use Rattle.std.proofs.lemmas.Map.Made.{AllPairs-from_IsDistinct, IsDistinct-from_AllPairs}
use Rattle.std.proofs.lemmas.Option.{get_or_from_slice_get, same_Some, slice_get-get_or, slice_get_within}
use Rattle.gtfs_field.proofs.ListFacts.{pairs-from_map}
use Rattle.gtfs_field.proofs.OrderingFacts.{equal}
use Rattle.gtfs_schema.proofs.BoolFacts.{same_test}
use Rattle.gtfs_advice.specs.NumberMarks.{AreMarks}
use Rattle.gtfs_advice.proofs.Marking.{AreMarksSoFar, all-marked, none-more, one-marked}

-- ---- orderings

both : (a b : Bool) → a ≡ true → b ≡ true → (a && b) ≡ true
both a b e f = λ i. e i && f i

-- what is not above another, and not tied with it, is below
below : (r : Ordering) → is_lt r ≡ false → (ordering_reverse r ≡ Equal → ⊥) → ordering_reverse r ≡ Less
below Less e apart = cc
below Equal e apart = absurd (apart refl)
below Greater e apart = refl

tied_second : (r s : Ordering) → ordering_then r s ≡ Less → r ≡ Equal → s ≡ Less
tied_second Less s e f = cc
tied_second Equal s e f = e
tied_second Greater s e f = cc

second_tied : (r s : Ordering) → ordering_then r s ≡ Equal → s ≡ Equal
second_tied Less s e = cc
second_tied Equal s e = e
second_tied Greater s e = cc

-- what stands between two that are tied is tied with them
pinched : (a b s t : Ordering) → ordering_then a s ≡ Less → ordering_then b t ≡ Less → a ≡ ordering_reverse b → b ≡ Equal
pinched a Less s t p q e = let up : ordering_then a s ≡ Greater = ap (λ o. ordering_then o s) e in cc
pinched a Equal s t p q e = refl
pinched a Greater s t p q e = cc

less_is : (a b : ℕ) → nat_cmp a b ≡ Less → a < b
less_is a b e = grind (arith, nat_tests)

tied_is : (a b : ℕ) → nat_cmp a b ≡ Equal → a ≡ b
tied_is a b e = grind (arith, nat_tests)

tied-test : (r : Ordering) → r ≡ Equal → is_eq r ≡ true
tied-test r e = ap is_eq e

-- ---- neighbours

record AreAt {X Y : Type 0} (xs : List X) (ys : List Y) (i : ℕ) (w : X × Y) : Type 0 where
  first_within : i < length xs
  second_within : i < length ys
  first : get_or xs i w.0 ≡ w.0
  second : get_or ys i w.1 ≡ w.1

zipped : {X Y : Type 0} (xs : List X) (ys : List Y) (i : ℕ) (w : X × Y) → i < length (zip xs ys) → get_or (zip xs ys) i w ≡ w → AreAt xs ys i w
zipped [] ys i w h e = absurd (omega arith)
zipped (x ∷ xs) [] i w h e = absurd (omega arith)
zipped (x ∷ xs) (y ∷ ys) zero w h e = record { first_within = omega arith; second_within = omega arith; first = ap (λ v. v.0) e; second = ap (λ v. v.1) e }
zipped (x ∷ xs) (y ∷ ys) (suc i) w h e =
    let later = zipped xs ys i w (omega arith) e in
    record { first_within = omega (arith, later.first_within); second_within = omega (arith, later.second_within); first = later.first; second = later.second }

zip-there : {X Y : Type 0} (xs : List X) (ys : List Y) (i : ℕ) (x : X) (y : Y) → i < length xs → i < length ys → (i < length (zip xs ys)) × (get_or (zip xs ys) i (x, y) ≡ (get_or xs i x, get_or ys i y))
zip-there [] ys i x y h k = absurd (omega arith)
zip-there (a ∷ xs) [] i x y h k = absurd (omega arith)
zip-there (a ∷ xs) (b ∷ ys) zero x y h k = (omega arith, refl)
zip-there (a ∷ xs) (b ∷ ys) (suc i) x y h k =
    let later = zip-there xs ys i x y (omega arith) (omega arith) in
    (omega (arith, later.0), later.1)

module _ {X : Type 0} (key_cmp : X → X → Ordering) (total : IsTotalOrder key_cmp) (number : X → ℕ) where
  abbrev pub listed_cmp : X → X → Ordering
  listed_cmp x y = ordering_then (key_cmp x y) (nat_cmp (number x) (number y))

  -- the second has the key of the first, and a lower number
  abbrev pub is_repeated_of : X → X → Bool
  is_repeated_of x y = is_eq (key_cmp y x) && nat_lt (number y) (number x)

  listed_total : IsTotalOrder listed_cmp
  listed_total = then_total total (on_total number nat_cmp_total)

  module _ (xs : List X) (sorted : IsSorted listed_cmp xs) (distinct : AllPairs (λ x y. number x ≢ number y) xs) where
    up : AllPairs (λ x y. listed_cmp x y ≡ Less) xs
    up i j d before within =
        let x = get_or xs i d in
        let y = get_or xs j d in
        let turned = listed_total.antisymm x y in
        let far = sorted_far (λ a b. is_lt (listed_cmp a b)) (ranks_by listed_total (λ a. a)) xs sorted i j d (omega arith) within in
        turned ∙ below (listed_cmp y x) far (λ e. distinct i j d before within (tied_is (number x) (number y) (second_tied (key_cmp x y) (nat_cmp (number x) (number y)) (turned ∙ e))))

    -- of two with one key the first has the lower number
    lower : (i j : ℕ) (d : X) → i < j → j < length xs → key_cmp (get_or xs i d) (get_or xs j d) ≡ Equal → number (get_or xs i d) < number (get_or xs j d)
    lower i j d before within tied =
        less_is (number (get_or xs i d)) (number (get_or xs j d))
        (tied_second (key_cmp (get_or xs i d) (get_or xs j d)) (nat_cmp (number (get_or xs i d)) (number (get_or xs j d))) (up i j d before within) tied)

    middle : (i m j : ℕ) (d : X) → i < m → m < j → j < length xs → key_cmp (get_or xs i d) (get_or xs j d) ≡ Equal → key_cmp (get_or xs m d) (get_or xs j d) ≡ Equal
    middle i m j d first second within tied =
        let x = get_or xs i d in
        let y = get_or xs m d in
        let z = get_or xs j d in
        pinched (key_cmp x y) (key_cmp y z) (nat_cmp (number x) (number y)) (nat_cmp (number y) (number z)) (up i m d first (omega arith)) (up m j d second within) (total.congr x z y tied ∙ total.antisymm z y)

    module _ (j : ℕ) (x : X) (within : j < length xs) (at : get_or xs j x ≡ x) where
      to : (0 < j) × (key_cmp (get_or xs (j - 1) x) x ≡ Equal) → list_any (is_repeated_of x) xs ≡ true
      to r =
          let y = get_or xs (j - 1) x in
          let less = lower (j - 1) j x (omega (arith, r.0)) within (ap (key_cmp y) at ∙ r.1) in
          list_any_at (is_repeated_of x) xs (j - 1) x (omega arith) (both (is_eq (key_cmp y x)) (nat_lt (number y) (number x)) (tied-test (key_cmp y x) r.1) (lt-ltb (number y) (number x) (subst (λ z. number y < number z) at less)))

      from : list_any (is_repeated_of x) xs ≡ true → (0 < j) × (key_cmp (get_or xs (j - 1) x) x ≡ Equal)
      from any =
          let found = Any-from_list_any (is_repeated_of x) xs any in
          let i = found.0 in
          let y = found.1 in
          let here : get_or xs i x ≡ y = get_or_default xs i x y found.2 ∙ found.3 in
          let parts = and_parts (is_eq (key_cmp y x)) (nat_lt (number y) (number x)) found.4 in
          let tied : key_cmp y x ≡ Equal = equal (key_cmp y x) parts.0 in
          let less : number y < number x = ltb-true (number y) (number x) parts.1 in
          elim (cases_order i j) [
            | inl same ↦ absurd (omega (arith, less, ap number (sym here ∙ ap (λ k. get_or xs k x) same ∙ at)))
            | inr (inr after) ↦
                let turned : key_cmp (get_or xs j x) (get_or xs i x) ≡ Equal = (λ k. key_cmp (at k) (here k)) ∙ tied_back total y x tied in
                absurd (omega (arith, less, lower j i x after found.2 turned, ap number at, ap number here))
            | inr (inl before) ↦ (omega arith, last i before ((λ k. key_cmp (here k) (at k)) ∙ tied))
          ]
        where
          last : (i : ℕ) → i < j → key_cmp (get_or xs i x) (get_or xs j x) ≡ Equal → key_cmp (get_or xs (j - 1) x) x ≡ Equal
          last i before tied = elim (cases_order i (j - 1)) [
            | inl same ↦ (λ k. key_cmp (get_or xs (sym same k) x) (sym at k)) ∙ tied
            | inr (inl less) ↦ ap (key_cmp (get_or xs (j - 1) x)) (sym at) ∙ middle i (j - 1) j x less (omega arith) within tied
            | inr (inr more) ↦ absurd (omega arith)
          ]

      -- a chosen element follows one with its key exactly where it has the key of one with a lower number
      pub repeated : (chosen : X → Bool) → list_any (λ w. (chosen w.1 && is_eq (key_cmp w.0 w.1)) && (number w.1 == number x)) (zip xs (drop 1 xs)) ≡ (chosen x && list_any (is_repeated_of x) xs)
      repeated chosen = same_test _ _ seen found
        where
          test : X × X → Bool
          test w = (chosen w.1 && is_eq (key_cmp w.0 w.1)) && (number w.1 == number x)

          -- the second of two neighbours has the number of x where it is x
          place : (i : ℕ) (y : X) → 1 + i < length xs → get_or xs (1 + i) y ≡ y → number y ≡ number x → 1 + i ≡ j
          place i y inside is same =
              let here : get_or xs (1 + i) x ≡ y = get_or_default xs (1 + i) x y inside ∙ is in
              let one : number (get_or xs (1 + i) x) ≡ number (get_or xs j x) = ap number here ∙ same ∙ ap number (sym at) in
              elim (cases_order (1 + i) j) [
                | inl e ↦ e
                | inr (inl less) ↦ absurd (distinct (1 + i) j x less within one)
                | inr (inr more) ↦ absurd (distinct j (1 + i) x more inside (sym one))
              ]

          seen : list_any (λ w. (chosen w.1 && is_eq (key_cmp w.0 w.1)) && (number w.1 == number x)) (zip xs (drop 1 xs)) ≡ true → (chosen x && list_any (is_repeated_of x) xs) ≡ true
          seen any =
              let it = Any-from_list_any test (zip xs (drop 1 xs)) any in
              let i = it.0 in
              let y = it.1.0 in
              let z = it.1.1 in
              let are = zipped xs (drop 1 xs) i it.1 it.2 it.3 in
              let parts = and_parts (chosen z && is_eq (key_cmp y z)) (number z == number x) it.4 in
              let inner = and_parts (chosen z) (is_eq (key_cmp y z)) parts.0 in
              let inside : 1 + i < length xs = omega (arith, are.second_within, length-drop 1 xs) in
              let second : get_or xs (1 + i) z ≡ z = sym (get_or_after_one xs i z) ∙ are.second in
              let j_is : 1 + i ≡ j = place i z inside second (eqb-true (number z) (number x) parts.1) in
              let z_is : z ≡ x = sym second ∙ get_or_default xs (1 + i) z x inside ∙ ap (λ k. get_or xs k x) j_is ∙ at in
              let i_is : i ≡ j - 1 = omega (arith, j_is) in
              let y_is : y ≡ get_or xs (j - 1) x = sym are.first ∙ get_or_default xs i y x are.first_within ∙ ap (λ k. get_or xs k x) i_is in
              let tied : key_cmp (get_or xs (j - 1) x) x ≡ Equal = (λ k. key_cmp (sym y_is k) (sym z_is k)) ∙ equal (key_cmp y z) inner.1 in
              both (chosen x) (list_any (is_repeated_of x) xs) (ap chosen (sym z_is) ∙ inner.0) (to (omega (arith, j_is), tied))

          found : (chosen x && list_any (is_repeated_of x) xs) ≡ true → list_any (λ w. (chosen w.1 && is_eq (key_cmp w.0 w.1)) && (number w.1 == number x)) (zip xs (drop 1 xs)) ≡ true
          found so =
              let parts = and_parts (chosen x) (list_any (is_repeated_of x) xs) so in
              let r = from parts.1 in
              let next : get_or (drop 1 xs) (j - 1) x ≡ x = get_or_after_one xs (j - 1) x ∙ ap (λ k. get_or xs k x) (omega (arith, r.0)) ∙ at in
              let there = zip-there xs (drop 1 xs) (j - 1) x x (omega arith) (omega (arith, r.0, length-drop 1 xs)) in
              let is : get_or (zip xs (drop 1 xs)) (j - 1) (x, x) ≡ (get_or xs (j - 1) x, x) = there.1 ∙ ap (λ z. (get_or xs (j - 1) x, z)) next in
              list_any_at test (zip xs (drop 1 xs)) (j - 1) (x, x) there.0
              (ap test is ∙ both (chosen x && is_eq (key_cmp (get_or xs (j - 1) x) x)) (number x == number x)
              (both (chosen x) (is_eq (key_cmp (get_or xs (j - 1) x) x)) parts.0 (tied-test (key_cmp (get_or xs (j - 1) x) x) r.1)) (eq-eqb (number x) (number x) refl))

-- ---- numbers

flips : (a b : ℕ) → nat_eq a b ≡ nat_eq b a
flips a b = grind (arith, nat_tests)

-- numbers that count up stay different in any order
pub distinct_numbers : {X : Type 0} (number : X → ℕ) (xs ys : List X) (n : ℕ) → map number xs ≡ range_with_len 0 n → IsPermutation xs ys → AllPairs (λ x y. number x ≢ number y) ys
distinct_numbers number xs ys n up moved =
    let rising : AllPairs (λ a b. a ≢ b) (range_with_len 0 n) =
    λ i j d before within e. absurd (omega (
      arith,
      before,
      sym (get_or-range_with_len 0 n i d (omega (arith, before, within, length-range_with_len 0 n))) ∙ e ∙ get_or-range_with_len 0 n j d (omega (arith, within, length-range_with_len 0 n)),
    )) in
    let apart = IsDistinct-IsPermutation nat_eq flips (map number xs) (map number ys) (IsPermutation-map number xs ys moved) (subst (IsDistinct nat_eq) (sym up) (IsDistinct-from_AllPairs Decides-eqb (range_with_len 0 n) rising)) in
    pairs-from_map number (λ a b. a ≢ b) ys (AllPairs-from_IsDistinct Decides-eqb (map number ys) apart)

-- where an element of a list stands when its elements have changed places
pub moved_to : {X : Type 0} (xs ys : List X) (i : ℕ) (x : X) → IsPermutation xs ys → slice_get xs i ≡ Some x → (j : ℕ) × (j < length ys) × (get_or ys j x ≡ x)
moved_to xs ys i x moved at = Contains-permutation xs ys x moved (i, slice_get_within xs i x at, get_or_from_slice_get xs i x x at)

-- ---- marks of the second of neighbours

neighbour_at : {X : Type 0} (xs : List X) (n : ℕ) (x y : X) → slice_get xs n ≡ Some x → slice_get xs (suc n) ≡ Some y → slice_get (zip xs (drop 1 xs)) n ≡ Some (x, y)
neighbour_at [] n x y first second = cc
neighbour_at (a ∷ []) zero x y first second = cc
neighbour_at (a ∷ []) (suc n) x y first second = cc
neighbour_at (a ∷ b ∷ xs) zero x y first second = λ i. Some (same_Some a x first i, same_Some b y second i)
neighbour_at (a ∷ b ∷ xs) (suc n) x y first second = neighbour_at (b ∷ xs) n x y first second

length-neighbours : {X : Type 0} (xs : List X) → length (zip xs (drop 1 xs)) ≡ length xs - 1
length-neighbours [] = omega arith
length-neighbours (a ∷ []) = omega arith
length-neighbours (a ∷ b ∷ xs) = let rest = length-neighbours (b ∷ xs) in omega (arith, rest)

module _ {X : Type 0} (number : X × X → Option ℕ) (size : ℕ) (xs : List X) where
  abbrev AreSoFar : ℕ → List Bool → Type 0
  AreSoFar n marks = AreMarksSoFar number (λ k. false) size (zip xs (drop 1 xs)) n marks

  module _ (place : ℕ) (some : 1 ≤ place) (within : place < length xs) (d : X) where
    there : slice_get (zip xs (drop 1 xs)) (place - 1) ≡ Some (get_or xs (place - 1) d, get_or xs place d)
    there =
        let next : place ≡ suc (place - 1) = omega (arith, some) in
        neighbour_at xs (place - 1) (get_or xs (place - 1) d) (get_or xs place d) (slice_get-get_or xs (place - 1) d (omega (arith, within)))
        (ap (slice_get xs) (sym next) ∙ slice_get-get_or xs place d within)

    next : place - 1 + 1 ≡ place + 1 - 1
    next = omega (arith, some)

    pub second-marked : (m : ℕ) (before after : List Bool) → number (get_or xs (place - 1) d, get_or xs place d) ≡ Some m → after ≡ slice_set before m true → AreSoFar (place - 1) before → AreSoFar (place + 1 - 1) after
    second-marked m before after is set so_far =
        subst (λ n. AreSoFar n after) next (one-marked number (λ k. false) size (zip xs (drop 1 xs)) (place - 1) (get_or xs (place - 1) d, get_or xs place d) m before after there is set so_far)

    pub second-kept : (before after : List Bool) → number (get_or xs (place - 1) d, get_or xs place d) ≡ None → after ≡ before → AreSoFar (place - 1) before → AreSoFar (place + 1 - 1) after
    second-kept before after is same so_far =
        subst (λ n. AreSoFar n after) next (none-more number (λ k. false) size (zip xs (drop 1 xs)) (place - 1) (get_or xs (place - 1) d, get_or xs place d) before after there is same so_far)

  pub seconds-marked : (place : ℕ) (marks : List Bool) → length xs ≤ place → AreSoFar (place - 1) marks → AreMarks size (λ k. list_any (λ w. option_eq nat_eq (number w) (Some k)) (zip xs (drop 1 xs))) marks
  seconds-marked place marks past so_far = all-marked number (λ k. false) size (zip xs (drop 1 xs)) (place - 1) marks (omega (arith, length-neighbours xs, past)) so_far

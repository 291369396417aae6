-- Rows of which no two have one key, put in order by it.
use Rattle.std.proofs.Common.{◌≡◌, ◌+◌, ◌<◌, ◌∷◌, [], List, map, length, get_or, false, Bool, refl, sym, ap, ◌∙◌, arith}
use Rattle.std.specs.Cmp.{IsTotalOrder}
use Rattle.std.specs.FinMap as table
use Rattle.std.specs.List.{AllPairs, IsDistinct}
use Rattle.std.specs.List.Sorted.{IsPermutation, IsSortedBy, IsSortedByKey}
use Rattle.std.specs.Ordering.{is_eq, is_lt, on, ordering_reverse}
use Rattle.std.specs.declared.cmp.Ordering.{Ordering}
use Rattle.std.specs.declared.cmp.Ordering.TheVariants.{Less, Equal, Greater}
use Rattle.std.proofs.lemmas.Cmp.{on_total}
use Rattle.std.proofs.lemmas.List.{get_or-map, length-map}
use Rattle.std.proofs.lemmas.List.Sorted.{IsPermutation-map}
use Rattle.std.proofs.lemmas.Map.Keys.{IsDistinct-from_apart, IsDistinct-IsPermutation, apart_from_distinct}
use Rattle.gtfs_rows.specs.TransferOrder.{Ascends, by_key}
use Rattle.gtfs_rows.proofs.ByKey.{ascends-from_adjacent, by_key_is}
use Rattle.gtfs_rows.proofs.SameElements.{same-from_permutation}

turned : (r : Ordering) → is_eq (ordering_reverse r) ≡ is_eq r
turned Less = refl
turned Equal = refl
turned Greater = refl

less_from : (s : Ordering) → is_lt s ≡ false → is_eq (ordering_reverse s) ≡ false → ordering_reverse s ≡ Less
less_from Less h k = cc h
less_from Equal h k = cc k
less_from Greater h k = refl

module _ {K : Type 0} (order : K → K → Ordering) (o : IsTotalOrder order) where
  abbrev tied : K → K → Bool
  tied a b = is_eq (order a b)

  tied_turned : (a b : K) → tied a b ≡ tied b a
  tied_turned a b = ap is_eq (o.antisymm a b) ∙ turned (order b a)

  module _ {X : Type 0} (key : X → K) where
    -- no two rows have one key
    abbrev pub Apart : List X → Type 0
    Apart xs = AllPairs (λ x y. is_eq (order (key x) (key y)) ≡ false) xs

    keys_distinct : (xs : List X) → Apart xs → IsDistinct tied (map key xs)
    keys_distinct [] apart = IsDistinct-from_apart tied [] (λ i j d h l. absurd (omega arith))
    keys_distinct (x ∷ xs) apart = IsDistinct-from_apart tied (map key (x ∷ xs)) (λ i j d h l.
        let l' : j < length (x ∷ xs) = omega (arith, l, length-map (x ∷ xs) key) in
        let first = get_or-map key (x ∷ xs) i x d (omega (arith, h, l')) in
        let second = get_or-map key (x ∷ xs) j x d l' in
        (λ t. tied (first t) (second t)) ∙ apart i j x h l')

    pub ascends_from_sort : (xs ys : List X) → Apart xs → IsPermutation xs ys → IsSortedByKey key order ys → Ascends (on key order) ys
    ascends_from_sort xs ys apart moved sorted =
        let distinct : IsDistinct tied (map key ys) =
        IsDistinct-IsPermutation tied tied_turned (map key xs) (map key ys) (IsPermutation-map key xs ys moved) (keys_distinct xs apart) in
        ascends-from_adjacent (on_total key o) ys (λ k d l.
        let l' : k + 1 < length (map key ys) = omega (arith, l, length-map ys key) in
        let a = key (get_or ys k d) in
        let b = key (get_or ys (k + 1) d) in
        let first = get_or-map key ys k d (key d) (omega (arith, l)) in
        let second = get_or-map key ys (k + 1) d (key d) l in
        let other : tied a b ≡ false = sym (λ t. tied (first t) (second t)) ∙ apart_from_distinct tied (map key ys) k (k + 1) (key d) distinct (omega arith) l' in
        o.antisymm a b ∙ less_from (order b a) (sorted k d (omega arith) l) (sym (ap is_eq (o.antisymm a b)) ∙ other))

    -- sorted, they are the rows by key
    pub by_key_from_sort : table.IsAntisymmetric order → (xs ys : List X) → Apart xs → IsPermutation xs ys → IsSortedByKey key order ys → by_key order key xs ≡ ys
    by_key_from_sort antisymmetric xs ys apart moved sorted =
        by_key_is order o key antisymmetric xs ys (same-from_permutation xs ys moved) (ascends_from_sort xs ys apart moved sorted)

    pub sorted_mapped : {A : Type 0} (f : A → X) (ps : List A) → IsSortedBy (λ a b. is_lt (order (key (f a)) (key (f b)))) ps → IsSortedByKey key order (map f ps)
    sorted_mapped f [] sorted k d low h = absurd (omega arith)
    sorted_mapped f (a ∷ ps) sorted k d low h =
        let h' : k + 1 < length (a ∷ ps) = omega (arith, h, length-map (a ∷ ps) f) in
        let later = get_or-map f (a ∷ ps) (k + 1) a d h' in
        let now = get_or-map f (a ∷ ps) k a d (omega (arith, h')) in
        (λ t. is_lt (order (key (later t)) (key (now t)))) ∙ sorted k a low h'

    -- the same of rows that a function gives
    pub by_key_mapped : {A : Type 0} (f : A → X) → table.IsAntisymmetric order → (ps qs : List A) → Apart (map f ps) → IsPermutation ps qs
        → IsSortedBy (λ a b. is_lt (order (key (f a)) (key (f b)))) qs → by_key order key (map f ps) ≡ map f qs
    by_key_mapped f antisymmetric ps qs apart moved sorted =
        by_key_from_sort antisymmetric (map f ps) (map f qs) apart (IsPermutation-map f ps qs moved) (sorted_mapped f qs sorted)

-- Keys as they are ordered: those that tie have the same parts.
use Rattle.std.proofs.Common.{◌≡◌, ℕ, List, [], ◌∷◌, true, false, Bool, refl, ap, ◌∙◌}
use Rattle.std.specs.Prelude.{◌&&◌, ℤ, bytes_eq}
use Rattle.std.specs.Cmp.Lexicographic.{pointwise, slice_cmp}
use Rattle.std.specs.Ordering.{int_cmp, int_eq, is_eq, nat_cmp, ordering_then}
use Rattle.std.specs.declared.cmp.Ordering.{Ordering}
use Rattle.std.specs.declared.cmp.Ordering.TheVariants.{Less, Equal, Greater}
use Rattle.std.proofs.lemmas.Map.Text.{is_eq-slice_cmp}
use Rattle.gtfs_schema.specs.FieldValues.{word, amount, value_eq}

-- a tie of both parts
tied_then : (a b : Ordering) → is_eq (ordering_then a b) ≡ (is_eq a && is_eq b)
tied_then Less b = refl
tied_then Equal b = refl
tied_then Greater b = refl

and_true : (a : Bool) → a ≡ (a && true)
and_true true = refl
and_true false = refl

and_turned : (a b : Bool) → (a && b) ≡ (b && (a && true))
and_turned true true = refl
and_turned true false = refl
and_turned false true = refl
and_turned false false = refl

-- a number and an id
pub numbered_alike : (a b : List ℕ) (x y : ℤ)
    → is_eq (ordering_then (int_cmp x y) (slice_cmp nat_cmp a b)) ≡ pointwise value_eq (word a ∷ amount x ∷ []) (word b ∷ amount y ∷ [])
numbered_alike a b x y = tied_then (int_cmp x y) (slice_cmp nat_cmp a b) ∙ (λ i. int_eq x y && is_eq-slice_cmp a b i) ∙ and_turned (int_eq x y) (bytes_eq a b)

-- six ids
six_tests : (a b c d e f : Bool) → (a && b && c && d && e && f) ≡ (a && (b && (c && (d && (e && (f && true))))))
six_tests true true true true true f = and_true f
six_tests true true true true false f = refl
six_tests true true true false e f = refl
six_tests true true false d e f = refl
six_tests true false c d e f = refl
six_tests false b c d e f = refl

module _ (a b c d e f a' b' c' d' e' f' : List ℕ) where
  pub six_alike : is_eq (ordering_then (ordering_then (ordering_then (ordering_then (ordering_then (slice_cmp nat_cmp a a') (slice_cmp nat_cmp b b')) (slice_cmp nat_cmp c c')) (slice_cmp nat_cmp d d')) (slice_cmp nat_cmp e e')) (slice_cmp nat_cmp f f'))
      ≡ pointwise value_eq (word a ∷ word b ∷ word c ∷ word d ∷ word e ∷ word f ∷ []) (word a' ∷ word b' ∷ word c' ∷ word d' ∷ word e' ∷ word f' ∷ [])
  six_alike =
      tied_then _ (slice_cmp nat_cmp f f')
      ∙ ap (λ t. t && is_eq (slice_cmp nat_cmp f f')) (tied_then _ (slice_cmp nat_cmp e e')
      ∙ ap (λ t. t && is_eq (slice_cmp nat_cmp e e')) (tied_then _ (slice_cmp nat_cmp d d')
      ∙ ap (λ t. t && is_eq (slice_cmp nat_cmp d d')) (tied_then _ (slice_cmp nat_cmp c c')
      ∙ ap (λ t. t && is_eq (slice_cmp nat_cmp c c')) (tied_then (slice_cmp nat_cmp a a') (slice_cmp nat_cmp b b')))))
      ∙ (λ i. is_eq-slice_cmp a a' i && is_eq-slice_cmp b b' i && is_eq-slice_cmp c c' i && is_eq-slice_cmp d d' i && is_eq-slice_cmp e e' i && is_eq-slice_cmp f f' i)
      ∙ six_tests (bytes_eq a a') (bytes_eq b b') (bytes_eq c c') (bytes_eq d d') (bytes_eq e e') (bytes_eq f f')

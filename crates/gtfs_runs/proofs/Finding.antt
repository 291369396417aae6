-- The first element of a list that passes a test.
use Rattle.std.proofs.Common.{◌≡◌, ◌≤◌, ◌<◌, ◌+◌, inl, inr, ℕ, zero, suc, Bool, true, false, not, List, [], ◌∷◌, map, length, get_or, find, refl, sym, subst, ap, ◌∙◌, arith}
use Rattle.std.specs.List.{range_with_len, slice_get}
use Rattle.std.specs.List.Sorted.{IsPartitionedBy, IsPartitionPoint}
use Rattle.std.specs.declared.cmp.Ordering.{Ordering}
use Rattle.std.specs.declared.cmp.Ordering.TheVariants.{Less}
use Rattle.std.proofs.lemmas.Bool.{true≢false, cases_Bool, not-true as turned-back, not-false as turned}
use Rattle.gtfs_field.proofs.NumberFacts.{cases_up_to as split_lt_eq}
use Rattle.gtfs_rows.specs.TransferOrder.{Ascends}

-- where a test fails up to an index and holds from there on, the element there is the first that passes
pub find-parted : {X : Type 0} (q : X → Bool) (xs : List X) (i : ℕ) → IsPartitionPoint (λ x. not (q x) ≡ true) (λ x. not (q x) ≡ false) xs i → i ≤ length xs
    → find q xs ≡ slice_get xs i
find-parted q [] i parted within = refl
find-parted q (x ∷ xs) zero parted within = rw (turned (q x) (parted.1 0 x (omega arith) (omega arith))) refl
find-parted q (x ∷ xs) (suc i) parted within =
    rw (turned-back (q x) (parted.0 0 x (omega arith) (omega arith)))
    (find-parted q xs i (λ k d from to. parted.0 (suc k) d (omega arith) (omega arith), λ k d from to. parted.1 (suc k) d (omega arith) (omega arith)) (omega arith))

-- a test that holds of all that follow what passes parts an ascending list
pub parted-upward : {X : Type 0} (R : X → X → Ordering) (q : X → Bool) → ((x y : X) → R x y ≡ Less → q x ≡ true → q y ≡ true) → (xs : List X) → Ascends R xs → IsPartitionedBy (λ x. not (q x)) xs
parted-upward R q upward xs rises i j d upto within fails =
    elim (split_lt_eq i j upto) [
      | inl below ↦ elim (cases_Bool (q (get_or xs i d))) [
        | inl passes ↦ absurd (true≢false (sym (upward _ _ (rises i j d below within) passes) ∙ turned-back _ fails))
        | inr not_yet ↦ rw not_yet refl
      ]
      | inr same ↦ subst (λ k. not (q (get_or xs k d)) ≡ true) (sym same) fails
    ]

pub get_or-range : {X : Type 0} (f : ℕ → X) (a n i : ℕ) (d : X) → i < n → get_or (map f (range_with_len a n)) i d ≡ f (a + i)
get_or-range f a zero i d h = absurd (omega arith)
get_or-range f a (suc n) zero d h = let e : a + 0 ≡ a = omega arith in rw e refl
get_or-range f a (suc n) (suc i) d h = let e : a + suc i ≡ (a + 1) + i = omega arith in rw e (get_or-range f (a + 1) n i d (omega arith))

pub get_or-range_0 : {X : Type 0} (f : ℕ → X) (n i : ℕ) (d : X) → i < n → get_or (map f (range_with_len 0 n)) i d ≡ f i
get_or-range_0 f n i d h = get_or-range f 0 n i d h ∙ ap f (omega arith)

-- Numbers that are compared instead of what they count.
use Rattle.std.proofs.Common.{◌≡◌, ◌≤◌, ◌+◌, ◌∙◌, ℕ, zero, suc, Bool, true, false, cond, List, [], ◌∷◌, length, get_or, refl, sym, ap, arith}
use Rattle.std.specs.List.{AllWithin}
use Rattle.std.specs.List.Sorted.{IsPartitionedBy, IsSorted}
use Rattle.std.specs.Cmp.{IsTotalOrder, tied_itself}
use Rattle.std.specs.FinMap.{IsAntisymmetric}
use Rattle.std.specs.declared.cmp.Ordering.{Ordering}
use Rattle.std.specs.declared.cmp.Ordering.TheVariants.{Less, Equal, Greater}
use Rattle.std.specs.Ordering.{is_eq, is_lt, nat_cmp, ordering_reverse}
use Rattle.std.proofs.lemmas.Bool.{true≢false}
use Rattle.std.proofs.lemmas.Cmp.{nat_cmp_total}
use Rattle.std.proofs.lemmas.List.Sorted.{ranks_by, sorted_far}
use Rattle.gtfs_field.proofs.OrderingFacts.{less as is_less, nat-greater as greater, nat-less as less}
use Rattle.gtfs_runs.specs.Tallies.{tally}
use Rattle.gtfs_runs.proofs.Tallies.{counted as yes_one}

-- ---- numbers

-- ---- how many elements lie below one

lower_or_equal : (r s : Ordering) → (r ≡ Less → s ≡ Less) → (r ≡ Equal → s ≡ Less) → cond (is_lt r) 1 0 + cond (is_eq r) 1 0 ≤ cond (is_lt s) 1 0
lower_or_equal Less s f g = rw (f refl) (omega arith)
lower_or_equal Equal s f g = rw (g refl) (omega arith)
lower_or_equal Greater s f g = omega arith

module _ {X K : Type 0} (R : K → K → Ordering) (o : IsTotalOrder R) (f : X → K) where
  more_below : (a b : K) (xs : List X) → R a b ≡ Less → tally (λ x. is_lt (R (f x) a)) xs + tally (λ x. is_eq (R (f x) a)) xs ≤ tally (λ x. is_lt (R (f x) b)) xs
  more_below a b [] up = omega arith
  more_below a b (x ∷ xs) up =
      let first = lower_or_equal (R (f x) a) (R (f x) b) (λ h. o.trans (f x) a b h up) (λ h. o.congr (f x) a b h ∙ up) in
      omega (arith, first, more_below a b xs up)

  pub ranks_compare : (xs : List X) (a b : K) → IsAntisymmetric R → 1 ≤ tally (λ x. is_eq (R (f x) a)) xs → 1 ≤ tally (λ x. is_eq (R (f x) b)) xs
      → nat_cmp (tally (λ x. is_lt (R (f x) a)) xs) (tally (λ x. is_lt (R (f x) b)) xs) ≡ R a b
  ranks_compare xs a b tied one other = go (R a b) refl
    where
      n : K → ℕ
      n k = tally (λ x. is_lt (R (f x) k)) xs

      go : (r : Ordering) → R a b ≡ r → nat_cmp (tally (λ x. is_lt (R (f x) a)) xs) (tally (λ x. is_lt (R (f x) b)) xs) ≡ R a b
      go Less is = let more = more_below a b xs is in less (n a) (n b) (omega (arith, more, one)) ∙ sym is
      go Equal is = ap (λ k. nat_cmp (n k) (n b)) (tied a b is) ∙ tied_itself nat_cmp_total (n b) ∙ sym is
      go Greater is =
          let more = more_below b a xs (o.antisymm b a ∙ ap ordering_reverse is) in
          greater (n a) (n b) (omega (arith, more, other)) ∙ sym is

  -- in sorted ones, those below an element come first
  pub below_first : (xs : List X) (l : K) → IsSorted (λ x y. R (f x) (f y)) xs → IsPartitionedBy (λ x. is_lt (R (f x) l)) xs
  below_first xs l up i j d before within below =
      let x = f (get_or xs i d) in
      let y = f (get_or xs j d) in
      let far : is_lt (R y x) ≡ false = sorted_far (λ a b. is_lt (R (f a) (f b))) (ranks_by o f) xs up i j d before within in
      ap is_lt (falls x y (R x y) refl far (is_less (R y l) below))
    where
      falls : (x y : K) (r : Ordering) → R x y ≡ r → is_lt (R y x) ≡ false → R y l ≡ Less → R x l ≡ Less
      falls x y Less is far low = o.trans x y l is low
      falls x y Equal is far low = o.congr x y l is ∙ low
      falls x y Greater is far low = absurd (true≢false (sym (ap is_lt (o.antisymm y x ∙ ap ordering_reverse is)) ∙ far))

no_none : (b : Bool) → b ≡ false → ◌≡◌ {A = ℕ} (cond b 1 0) 0
no_none b is = ap (λ a. cond a 1 0) is

pub parted_tally : {X : Type 0} (q : X → Bool) (xs : List X) (n : ℕ) → n ≤ length xs → AllWithin (λ x. q x ≡ true) xs 0 n → AllWithin (λ x. q x ≡ false) xs n (length xs) → n ≡ tally q xs
parted_tally q [] n upto first rest = omega (arith, upto)
parted_tally q (x ∷ xs) zero upto first rest =
    let here = no_none (q x) (rest 0 x (omega arith) (omega arith)) in
    let more = parted_tally q xs 0 (omega arith) (λ k d from to. absurd (omega (arith, to))) (λ k d from to. rest (suc k) d (omega arith) (omega (arith, to))) in
    omega (arith, here, more)
parted_tally q (x ∷ xs) (suc n) upto first rest =
    let here = yes_one (q x) (first 0 x (omega arith) (omega arith)) in
    let more = parted_tally q xs n (omega (arith, upto)) (λ k d from to. first (suc k) d (omega arith) (omega (arith, to))) (λ k d from to. rest (suc k) d (omega (arith, from)) (omega (arith, to))) in
    omega (arith, here, more)

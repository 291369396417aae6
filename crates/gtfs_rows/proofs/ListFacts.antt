-- Elements of lists, by index.
use Rattle.std.proofs.Common.{◌≡◌, ◌<◌, ◌∙◌, ℕ, suc, Bool, true, false, cond, inl, inr, List, [], ◌∷◌, length, get_or, Some, sym, ap, refl, arith}
use Rattle.std.specs.Prelude.{◌==◌, nat_lt}
use Rattle.std.specs.Ordering.{nat_cmp}
use Rattle.std.specs.List.{list_all, slice_get}
use Rattle.std.specs.declared.cmp.Ordering.TheVariants.{Less, Equal, Greater}
use Rattle.std.proofs.lemmas.Bool.{cases_Bool, ltb-true}
use Rattle.std.proofs.lemmas.Option.{get_or_from_slice_get, slice_get_within}
use Rattle.gtfs_rows.proofs.RowTexts.{all_at}

-- what holds of all holds of the one at an index
pub all_of : {X : Type 0} (q : X → Bool) (xs : List X) (k : ℕ) (x : X) → list_all q xs ≡ true → slice_get xs k ≡ Some x → q x ≡ true
all_of q xs k x all at = ap q (sym (get_or_from_slice_get xs k x x at)) ∙ all_at q xs k x all (slice_get_within xs k x at)

pub all_from : {X : Type 0} (q : X → Bool) (xs : List X) (d : X) → ((k : ℕ) → k < length xs → q (get_or xs k d) ≡ true) → list_all q xs ≡ true
all_from q [] d each = refl
all_from q (x ∷ xs) d each = rw (each 0 (omega arith)) (all_from q xs d (λ k within. each (suc k) (omega arith)))

pub less_is : (a b : ℕ) → nat_cmp a b ≡ Less → a < b
less_is a b less = elim (cases_Bool (nat_lt a b)) [
  | inl below ↦ ltb-true a b below
  | inr above ↦ absurd (never (a == b) (rw above at less))
]
  where
    never : (t : Bool) → cond t Equal Greater ≡ Less → ⊥
    never true e = cc
    never false e = cc

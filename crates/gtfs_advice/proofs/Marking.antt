-- Flags by number, from one row to the next.
use Rattle.std.proofs.Common.{◌≡◌, ◌∙◌, ◌+◌, ◌<◌, ◌≤◌, ◌++◌, ℕ, Bool, true, false, List, [], ◌∷◌, Option, Some, None, length, get_or, take, refl, sym, ap, subst, arith, inl, inr}
use Rattle.std.specs.Prelude.{◌||◌, bytes_eq, nat_eq, option_map}
use Rattle.std.specs.Option.{option_eq}
use Rattle.std.specs.List.{list_all, list_any, slice_get, slice_set}
use Rattle.std.proofs.lemmas.Bool.{and_parts, ltb-true, or_right}
use Rattle.std.proofs.lemmas.Bool.Decides.{eqb_tells}
use Rattle.std.proofs.lemmas.Grind.{get_or-set_at}
use Rattle.std.proofs.lemmas.List.{get_or-set_other, length-set, take_all, take_more}
use Rattle.std.proofs.lemmas.List.Folds.{list_any-append}
use Rattle.std.proofs.lemmas.Option.{get_or_from_slice_get, slice_get_within}
use Rattle.gtfs_field.specs.TextOrder.{text_cmp}
use Rattle.gtfs_rows.specs.TransferOrder.{Ascends}
use Rattle.gtfs_rows.specs.NamedRows.{is_number_within, text_of_number}
use Rattle.gtfs_advice.specs.NumberMarks.{AreMarks}
use Rattle.gtfs_advice.proofs.Numbers.{same_number}

pub or-none : (b : Bool) → (b || false) ≡ b
or-none true = refl
or-none false = refl

names_id : (ids : List (List ℕ)) → Ascends text_cmp ids → (o : Option ℕ) → is_number_within (length ids) o ≡ true → (k : ℕ) → k < length ids
    → option_eq nat_eq o (Some k) ≡ option_eq bytes_eq (option_map (text_of_number ids) o) (Some (text_of_number ids k))
names_id ids up None inside k within = refl
names_id ids up (Some m) inside k within = same_number ids m k up (ltb-true m (length ids) inside) within

module _ {X : Type 0} (number : X → Option ℕ) where
  -- a row names the number
  abbrev pub has_number : ℕ → X → Bool
  has_number k x = option_eq nat_eq (number x) (Some k)

  module _ (old : ℕ → Bool) (size : ℕ) (xs : List X) where
    -- the flags that were set before, and those of the rows before the n-th
    abbrev pub AreMarksSoFar : ℕ → List Bool → Type 0
    AreMarksSoFar n marks = AreMarks size (λ k. old k || list_any (has_number k) (take n xs)) marks

    more : (n : ℕ) (x : X) (k : ℕ) → slice_get xs n ≡ Some x → list_any (has_number k) (take (n + 1) xs) ≡ (list_any (has_number k) (take n xs) || has_number k x)
    more n x k there =
        let list : take (n + 1) xs ≡ take n xs ++ x ∷ [] = take_more xs n x (slice_get_within xs n x there) ∙ ap (λ y. take n xs ++ y ∷ []) (get_or_from_slice_get xs n x x there) in
        ap (list_any (has_number k)) list ∙ list_any-append (has_number k) (take n xs) (x ∷ []) ∙ ap (λ b. list_any (has_number k) (take n xs) || b) (or-none (has_number k x))

    pub one-marked : (n : ℕ) (x : X) (m : ℕ) (before after : List Bool) → slice_get xs n ≡ Some x → number x ≡ Some m → after ≡ slice_set before m true → AreMarksSoFar n before → AreMarksSoFar (n + 1) after
    one-marked n x m before after there is mark so_far = record {
      count = ap length mark ∙ length-set before m true ∙ so_far.count;
      at = λ k within. elim (eqb_tells m k) [
        | inl same ↦
            ap (λ ms. get_or ms k false) mark ∙ get_or-set_at before m k true false (sym same.1) (omega (arith, so_far.count, same.1))
            ∙ sym (or_right (old k) (list_any (has_number k) (take (n + 1) xs)) (more n x k there ∙ or_right (list_any (has_number k) (take n xs)) (has_number k x) (ap (λ o. option_eq nat_eq o (Some k)) is ∙ same.0)))
        | inr other ↦
            ap (λ ms. get_or ms k false) mark ∙ get_or-set_other before m k true false (λ e. other.1 (sym e)) ∙ so_far.at k within
            ∙ sym (ap (λ b. old k || b) (more n x k there ∙ ap (λ b. list_any (has_number k) (take n xs) || b) (ap (λ o. option_eq nat_eq o (Some k)) is ∙ other.0) ∙ or-none (list_any (has_number k) (take n xs))))
      ];
    }

    pub none-more : (n : ℕ) (x : X) (before after : List Bool) → slice_get xs n ≡ Some x → number x ≡ None → after ≡ before → AreMarksSoFar n before → AreMarksSoFar (n + 1) after
    none-more n x before after there is same so_far = record {
      count = ap length same ∙ so_far.count;
      at = λ k within. ap (λ ms. get_or ms k false) same ∙ so_far.at k within
          ∙ sym (ap (λ b. old k || b) (more n x k there ∙ ap (λ o. list_any (has_number k) (take n xs) || option_eq nat_eq o (Some k)) is ∙ or-none (list_any (has_number k) (take n xs))));
    }

    pub all-marked : (n : ℕ) (marks : List Bool) → length xs ≤ n → AreMarksSoFar n marks → AreMarks size (λ k. old k || list_any (has_number k) xs) marks
    all-marked n marks all so_far = subst (λ ys. AreMarks size (λ k. old k || list_any (has_number k) ys) marks) (take_all n xs all) so_far

  -- a row names a number exactly where it names its id
  pub named : (ids : List (List ℕ)) → Ascends text_cmp ids → (xs : List X) → list_all (λ x. is_number_within (length ids) (number x)) xs ≡ true → (k : ℕ) → k < length ids
      → list_any (has_number k) xs ≡ list_any (λ x. option_eq bytes_eq (option_map (text_of_number ids) (number x)) (Some (text_of_number ids k))) xs
  named ids up [] all k within = refl
  named ids up (x ∷ xs) all k within =
      let parts = and_parts (is_number_within (length ids) (number x)) (list_all (λ y. is_number_within (length ids) (number y)) xs) all in
      let here = names_id ids up (number x) parts.0 k within in
      let later = named ids up xs parts.1 k within in
      λ i. here i || later i

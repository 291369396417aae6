-- What is listed after a push, and after a sort without repeats.
use Rattle.std.proofs.Common.{◌≡◌, ◌∷◌, [], ◌++◌, List, map, true, false, Bool, refl, sym, ap, ◌∙◌, inl, inr}
use Rattle.std.specs.Prelude.{◌&&◌, ◌||◌, IsPermutation}
use Rattle.std.specs.Cmp.{Equal-is, alike_right, on_total}
use Rattle.std.specs.List.{AllByRecursion, dedup, dedup_from, list_any}
use Rattle.std.specs.List.Sorted.{IsSorted, IsStrictlySortedBy}
use Rattle.std.specs.Ordering.{eq_by_cmp, is_eq}
use Rattle.std.specs.declared.cmp.Ordering.{Ordering}
use Rattle.std.specs.declared.cmp.Ordering.TheVariants.{Less}
use Rattle.std.proofs.Math.Bool.{and-true, or-false, or_assoc}
use Rattle.std.proofs.lemmas.Bool.{cases_Bool}
use Rattle.std.proofs.lemmas.List.Kept.{IsStrictlySortedBy-dedup}
use Rattle.std.proofs.lemmas.List.Sorted.{list_any-IsPermutation}
use Rattle.gtfs_field.proofs.ListFacts.{any_mapped}
use Rattle.gtfs_schema.specs.declared.problem.Problem.{Problem as LentProblem}
use Rattle.gtfs_schema.specs.steps.FoundProblems.{is_same, SameProblems}
use Rattle.gtfs_schema.specs.steps.ProblemOrder.{problem_total}
use Rattle.gtfs_schema.specs.Problems.{Problem, problem_cmp, lists_problem}
use Rattle.gtfs_schema.specs.ProblemTexts.{problem_of}

-- ---- a problem more

pub listed_push : (xs : List LentProblem) (x : LentProblem) (p : Problem)
    → lists_problem (map problem_of (xs ++ x ∷ [])) p ≡ (lists_problem (map problem_of xs) p || (is_same (problem_of x) p && true))
listed_push [] x p = or-false (is_same (problem_of x) p) ∙ sym (and-true (is_same (problem_of x) p))
listed_push (y ∷ ys) x p =
    ap (λ b. is_same (problem_of y) p || b) (listed_push ys x p)
    ∙ sym (or_assoc (is_same (problem_of y) p) (lists_problem (map problem_of ys) p) (is_same (problem_of x) p && true))

-- ---- each problem once, in order

module _ {X K : Type 0} (f : X → K) (R : K → K → Ordering) where
  all_mapped : (x : X) (xs : List X) → AllByRecursion (λ y. R (f x) (f y) ≡ Less) xs → AllByRecursion (λ k. R (f x) k ≡ Less) (map f xs)
  all_mapped x [] h = tt
  all_mapped x (y ∷ ys) h = (h.0, all_mapped x ys h.1)

  pub sorted_mapped : (xs : List X) → IsStrictlySortedBy (λ x y. R (f x) (f y)) xs → IsStrictlySortedBy R (map f xs)
  unfolding IsStrictlySortedBy
  sorted_mapped [] h = tt
  sorted_mapped (x ∷ xs) h = (all_mapped x xs h.0, sorted_mapped xs h.1)

module _ {X : Type 0} (E : X → X → Bool) (t : X → Bool) (alike : (x y : X) → E x y ≡ true → t x ≡ t y) where
  or_same : (a b : Bool) → (a || b) ≡ (a || (a || b))
  or_same true b = refl
  or_same false b = refl

  any_from : (k : X) (xs : List X) → list_any t (dedup_from E k xs) ≡ (t k || list_any t xs)
  any_from k [] = refl
  any_from k (x ∷ xs) = elim (cases_Bool (E x k)) [
    | inl same ↦ rw (same, any_from k xs, alike x k same) (or_same (t k) (list_any t xs))
    | inr other ↦ rw (other, any_from x xs) refl
  ]

  any_dedup : (xs : List X) → list_any t (dedup E xs) ≡ list_any t xs
  any_dedup [] = refl
  any_dedup (x ∷ xs) = any_from x xs

abbrev lent_cmp : LentProblem → LentProblem → Ordering
lent_cmp x y = problem_cmp (problem_of x) (problem_of y)

pub sorted_once : (xs : List LentProblem) → IsSorted lent_cmp xs → IsStrictlySortedBy problem_cmp (map problem_of (dedup (eq_by_cmp lent_cmp) xs))
sorted_once xs h = sorted_mapped problem_of problem_cmp (dedup (eq_by_cmp lent_cmp) xs)
    (IsStrictlySortedBy-dedup (on_total problem_of problem_total) (λ x y. refl) xs h)

-- problems that tie are reported alike
reported_alike : (p : Problem) (x y : LentProblem) → eq_by_cmp lent_cmp x y ≡ true → is_same (problem_of x) p ≡ is_same (problem_of y) p
reported_alike p x y e = ap is_eq (alike_right problem_total (problem_of x) (problem_of y) p ((Equal-is (lent_cmp x y)).0 e))

pub same_once : (old mid : List LentProblem) → IsPermutation old mid → SameProblems (map problem_of old) (map problem_of (dedup (eq_by_cmp lent_cmp) mid))
same_once old mid moved p =
    any_mapped (λ q. is_same q p) problem_of (dedup (eq_by_cmp lent_cmp) mid)
    ∙ any_dedup (eq_by_cmp lent_cmp) (λ x. is_same (problem_of x) p) (reported_alike p) mid
    ∙ sym (list_any-IsPermutation (λ x. is_same (problem_of x) p) old mid moved)
    ∙ sym (any_mapped (λ q. is_same q p) problem_of old)

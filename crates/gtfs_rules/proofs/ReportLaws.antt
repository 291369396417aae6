-- A dataset has one report, and passes exactly where its report has no error.
use Rattle.std.proofs.Common.{◌≡◌, ◌∷◌, [], List, map, true, false, Bool, refl, sym, ap, ◌∙◌, Option, Some, None, is_some, inl, inr}
use Rattle.std.specs.Prelude.{◌&&◌, ◌||◌, not}
use Rattle.std.specs.Cmp.{IsTotalOrder, Equal-is, tied_itself}
use Rattle.std.specs.FinMap.{IsAntisymmetric}
use Rattle.std.specs.FinMap.Entries.{below_all, is_sorted, find, is_some-find, same_entries}
use Rattle.std.specs.List.{AllByRecursion, list_any, list_all}
use Rattle.std.specs.List.Sorted.{IsStrictlySortedBy}
use Rattle.std.specs.Ordering.{eq_by_cmp, is_lt}
use Rattle.std.specs.declared.cmp.Ordering.{Ordering}
use Rattle.std.specs.declared.cmp.Ordering.TheVariants.{Less}
use Rattle.std.proofs.lemmas.Bool.{cases_Bool}
use Rattle.gtfs_table.specs.Tables.{Dataset}
use Rattle.gtfs_schema.specs.declared.problem.Problem.{Problem as LentProblem}
use Rattle.gtfs_schema.specs.Codes.{is_error}
use Rattle.gtfs_schema.specs.steps.ProblemOrder.{problem_total, problem_anti}
use Rattle.gtfs_schema.specs.Problems.{Problem, problem_cmp, is_problem, IsReport, Passes, passes}
use Rattle.gtfs_schema.specs.ProblemTexts.{problem_of}

-- ---- strictly sorted lists with the same members are one list

module _ {K : Type 0} (R : K → K → Ordering) where
  abbrev entries : List K → List (K × Unit {0})
  entries xs = map (λ x. (x, tt)) xs

  keys_back : (xs : List K) → map (λ e. e.0) (entries xs) ≡ xs
  keys_back [] = refl
  keys_back (x ∷ xs) = ap (λ ys. x ∷ ys) (keys_back xs)

  both : (a b : Bool) → a ≡ true → b ≡ true → (a && b) ≡ true
  both true b p q = q
  both false b p q = cc p

  below : (x : K) (xs : List K) → AllByRecursion (λ y. R x y ≡ Less) xs → below_all R x (entries xs) ≡ true
  below x [] h = refl
  below x (y ∷ ys) h = both (is_lt (R x y)) (below_all R x (entries ys)) (ap is_lt h.0) (below x ys h.1)

  in_order : (xs : List K) → IsStrictlySortedBy R xs → is_sorted R (entries xs) ≡ true
  unfolding IsStrictlySortedBy
  in_order [] h = refl
  in_order (x ∷ xs) h = both (below_all R x (entries xs)) (is_sorted R (entries xs)) (below x xs h.0) (in_order xs h.1)

  mark : Bool → Option (Unit {0})
  mark true = Some tt
  mark false = None

  marked : (o : Option (Unit {0})) → o ≡ mark (is_some o)
  unfolding mark
  marked None = refl
  marked (Some u) = refl

  found : (q : K) (xs : List K) → find R q (entries xs) ≡ mark (list_any (eq_by_cmp R q) xs)
  found q xs = marked (find R q (entries xs)) ∙ ap mark (is_some-find R q (entries xs) ∙ ap (list_any (eq_by_cmp R q)) (keys_back xs))

  pub same_sorted : IsTotalOrder R → IsAntisymmetric R → (xs ys : List K) → IsStrictlySortedBy R xs → IsStrictlySortedBy R ys
      → ((q : K) → list_any (eq_by_cmp R q) xs ≡ list_any (eq_by_cmp R q) ys) → xs ≡ ys
  same_sorted o anti xs ys up up' same =
      sym (keys_back xs)
      ∙ ap (λ es. map (λ e. e.0) es)
      (same_entries R o anti (entries xs) (entries ys) (rw (in_order xs up) tt) (rw (in_order ys up') tt) (λ q. found q xs ∙ ap mark (same q) ∙ sym (found q ys)))
      ∙ keys_back ys

-- the report is the only one
pub one_report : (d : Dataset) (ps qs : List Problem) → IsReport d ps → IsReport d qs → ps ≡ qs
one_report d ps qs r s = same_sorted problem_cmp problem_total problem_anti ps qs r.ascending s.ascending (λ p. r.members p ∙ sym (s.members p))

-- ---- a dataset passes exactly where its report has no error

module _ {K : Type 0} (R : K → K → Ordering) (o : IsTotalOrder R) (anti : IsAntisymmetric R) (test : K → Bool) where
  or_true : (a : Bool) → (a || true) ≡ true
  or_true true = refl
  or_true false = refl

  and_first : (a b : Bool) → (a && b) ≡ true → a ≡ true
  and_first true b e = refl
  and_first false b e = cc e

  and_second : (a b : Bool) → (a && b) ≡ true → b ≡ true
  and_second true b e = e
  and_second false b e = cc e

  -- of a list that all pass, each member passes
  each_member : (xs : List K) → list_all test xs ≡ true → (x : K) → list_any (eq_by_cmp R x) xs ≡ true → test x ≡ true
  each_member [] all x one = cc one
  each_member (y ∷ ys) all x one = elim (cases_Bool (eq_by_cmp R x y)) [
    | inl tied ↦ ap test (anti x y ((Equal-is (R x y)).0 tied)) ∙ and_first (test y) (list_all test ys) all
    | inr other ↦ each_member ys (and_second (test y) (list_all test ys) all) x (sym (ap (λ b. b || list_any (eq_by_cmp R x) ys) other) ∙ one)
  ]

  -- where each member passes, all do
  all_members : (xs : List K) → ((x : K) → list_any (eq_by_cmp R x) xs ≡ true → test x ≡ true) → list_all test xs ≡ true
  all_members [] each = refl
  all_members (y ∷ ys) each =
      (λ i. each y (ap (λ b. b || list_any (eq_by_cmp R y) ys) ((Equal-is (R y y)).1 (tied_itself o y))) i
      && all_members ys (λ x one. each x (ap (λ b. eq_by_cmp R x y || b) one ∙ or_true (eq_by_cmp R x y))) i)

clear : (e h : Bool) → not e ≡ true → e ≡ true → h ≡ false
clear true h p q = cc p
clear false h p q = cc q

silent : (e h : Bool) → (e ≡ true → h ≡ false) → h ≡ true → not e ≡ true
silent true h f q = cc (sym (f refl) ∙ q)
silent false h f q = refl

pub passes_only_if : (d : Dataset) (ps : List Problem) → IsReport d ps → passes ps ≡ true → Passes d
passes_only_if d ps r all p err = elim (cases_Bool (is_problem d p)) [
  | inl holds ↦ clear (is_error p.code) (is_problem d p) (each_member problem_cmp problem_total problem_anti (λ q. not (is_error q.code)) ps all p (r.members p ∙ holds)) err
  | inr fails ↦ fails
]

pub passes_if : (d : Dataset) (ps : List Problem) → IsReport d ps → Passes d → passes ps ≡ true
passes_if d ps r none = all_members problem_cmp problem_total problem_anti (λ q. not (is_error q.code)) ps
    (λ p one. silent (is_error p.code) (is_problem d p) (none p) (sym (r.members p) ∙ one))

-- ---- the same over the problems that the code lends

not_or : (a b : Bool) → (not a && not b) ≡ not (a || b)
not_or true b = refl
not_or false b = refl

pub passes_lent : (xs : List LentProblem) → passes (map problem_of xs) ≡ not (list_any (λ p. is_error p.code) xs)
passes_lent [] = refl
passes_lent (x ∷ xs) = ap (λ b. not (is_error x.code) && b) (passes_lent xs) ∙ not_or (is_error x.code) (list_any (λ p. is_error p.code) xs)

pub passes_without_error : (d : Dataset) (xs : List LentProblem) → IsReport d (map problem_of xs) → list_any (λ p. is_error p.code) xs ≡ false → Passes d
passes_without_error d xs r none = passes_only_if d (map problem_of xs) r (passes_lent xs ∙ ap not none)

pub fails_with_error : (d : Dataset) (xs : List LentProblem) → IsReport d (map problem_of xs) → list_any (λ p. is_error p.code) xs ≡ true → ¬ (Passes d)
fails_with_error d xs r one all = cc (sym (passes_if d (map problem_of xs) r all) ∙ passes_lent xs ∙ ap not one)

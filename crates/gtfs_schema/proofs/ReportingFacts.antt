-- What steps add to a list of problems, one after the other.
use Rattle.std.proofs.Common.{◌≡◌, [], List, true, false, Bool, refl, sym, ap, ◌∙◌, inl, inr}
use Rattle.std.specs.Prelude.{◌&&◌, ◌||◌}
use Rattle.std.specs.Cmp.{Equal-is}
use Rattle.std.proofs.lemmas.Bool.{cases_Bool}
use Rattle.gtfs_table.specs.Tables.{Dataset}
use Rattle.gtfs_schema.specs.steps.FoundProblems.{Adds, ListsAll, Reports, is_same}
use Rattle.gtfs_schema.specs.steps.ProblemOrder.{problem_anti}
use Rattle.gtfs_schema.specs.Problems.{Problem, problem_cmp, lists_problem, is_problem}

-- nothing picked, nothing added
or_false : (a b : Bool) → a ≡ (a || (false && b))
or_false true b = refl
or_false false b = refl

pub reports_none : (d : Dataset) (ps : List Problem) → Reports d (λ p. false) ps ps
reports_none d ps p = or_false (lists_problem ps p) (is_problem d p)

-- two steps
joined : (l a b h : Bool) → ((l || (a && h)) || (b && h)) ≡ (l || ((a || b) && h))
joined true a b h = refl
joined false true true true = refl
joined false true true false = refl
joined false true false true = refl
joined false true false false = refl
joined false false b h = refl

pub reports_then : (d : Dataset) (a b : Problem → Bool) (xs ys zs : List Problem) → Reports d a xs ys → Reports d b ys zs → Reports d (λ p. a p || b p) xs zs
reports_then d a b xs ys zs first second p =
    second p ∙ ap (λ l. l || (b p && is_problem d p)) (first p) ∙ joined (lists_problem xs p) (a p) (b p) (is_problem d p)

-- the same problems picked by another test
pub reports_alike : (d : Dataset) (a b : Problem → Bool) (xs ys : List Problem) → ((p : Problem) → (a p && is_problem d p) ≡ (b p && is_problem d p)) → Reports d a xs ys → Reports d b xs ys
reports_alike d a b xs ys same reported p = reported p ∙ ap (λ t. lists_problem xs p || t) (same p)

-- a site that was asked
same_site : (d : Dataset) (q p : Problem) → (is_same q p && is_problem d q) ≡ (is_same q p && is_problem d p)
same_site d q p = elim (cases_Bool (is_same q p)) [
  | inl tied ↦ ap (λ r. is_same q p && is_problem d r) (sym (problem_anti p q ((Equal-is (problem_cmp p q)).0 tied)))
  | inr apart ↦ rw apart refl
]

pub reports_one : (d : Dataset) (q : Problem) (holds : Bool) (xs ys : List Problem) → holds ≡ is_problem d q → Adds (λ p. is_same q p && holds) xs ys → Reports d (is_same q) xs ys
reports_one d q holds xs ys asked adds p =
    adds p ∙ ap (λ h. lists_problem xs p || (is_same q p && h)) asked ∙ ap (λ t. lists_problem xs p || t) (same_site d q p)

-- every problem of the dataset was picked
both_hold : (picked h : Bool) → (h ≡ true → picked ≡ true) → (picked && h) ≡ h
both_hold true h f = refl
both_hold false true f = f refl
both_hold false false f = refl

pub reports_all : (d : Dataset) (picks : Problem → Bool) (ps : List Problem) → ((p : Problem) → is_problem d p ≡ true → picks p ≡ true) → Reports d picks [] ps → ListsAll d ps
reports_all d picks ps covered reported p = reported p ∙ both_hold (picks p) (is_problem d p) (covered p)

-- three and four steps
pub reports_three : (d : Dataset) (a b c : Problem → Bool) (ws xs ys zs : List Problem) → Reports d a ws xs → Reports d b xs ys → Reports d c ys zs
    → Reports d (λ p. a p || b p || c p) ws zs
reports_three d a b c ws xs ys zs first second third = reports_then d (λ p. a p || b p) c ws ys zs (reports_then d a b ws xs ys first second) third

pub reports_four : (d : Dataset) (a b c e : Problem → Bool) (vs ws xs ys zs : List Problem) → Reports d a vs ws → Reports d b ws xs → Reports d c xs ys → Reports d e ys zs
    → Reports d (λ p. a p || b p || c p || e p) vs zs
reports_four d a b c e vs ws xs ys zs first second third fourth =
    reports_then d (λ p. a p || b p || c p) e vs ys zs (reports_three d a b c vs ws xs ys first second third) fourth

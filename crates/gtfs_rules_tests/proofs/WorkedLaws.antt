-- The worked reports are the reports that `check` makes, of every dataset: strictly ascending in their order, and their
-- members are just its problems, since every problem is among those that were tried.
use Rattle.std.proofs.Common.{◌≡◌, ◌∷◌, [], List, map, true, false, Bool, refl, sym, ap, ◌∙◌, Option, Some, is_some}
use Rattle.std.specs.Prelude.{◌&&◌, ◌||◌, T, cond, filter}
use Rattle.std.specs.Cmp.{Equal-is}
use Rattle.std.specs.FinMap.Entries.{below_all, is_sorted, find, is_some-find, is_sorted-put, find-put}
use Rattle.std.specs.List.{AllByRecursion}
use Rattle.std.specs.List.Sorted.{IsStrictlySortedBy}
use Rattle.std.specs.Ordering.{eq_by_cmp}
use Rattle.std.specs.declared.cmp.Ordering.{Ordering}
use Rattle.std.specs.declared.cmp.Ordering.TheVariants.{Less}
use Rattle.std.proofs.lemmas.Map.Views.{any-filter_same}
use Rattle.gtfs_field.proofs.OrderingFacts.{less_so}
use Rattle.gtfs_field.proofs.TestFacts.{first_so, second_so}
use Rattle.gtfs_table.specs.Tables.{Dataset}
use Rattle.gtfs_schema.specs.steps.ProblemOrder.{problem_total, problem_anti}
use Rattle.gtfs_schema.specs.Problems.{Problem, problem_cmp, lists_problem, is_problem, IsReport}
use Rattle.gtfs_rules.specs.Report.{report_text}
use Rattle.gtfs_rules.proofs.ReportLaws.{one_report}
use Rattle.gtfs_rules_tests.proofs.WorkedFeeds.{tried, entered, problems_in, reported}
use Rattle.gtfs_rules_tests.proofs.WorkedTried.{all_tried}

-- ---- ascending

module _ {K : Type 0} (R : K → K → Ordering) where
  each_less : (x : K) (es : List (K × Unit {0})) → T (below_all R x es) → AllByRecursion (λ y. R x y ≡ Less) (map (λ e. e.0) es)
  each_less x [] h = tt
  each_less x (e ∷ es) h = (less_so (R x e.0) (first_so _ _ h), each_less x es (second_so _ _ h))

  keys_ascend : (es : List (K × Unit {0})) → T (is_sorted R es) → IsStrictlySortedBy R (map (λ e. e.0) es)
  unfolding IsStrictlySortedBy
  keys_ascend [] h = tt
  keys_ascend (e ∷ es) h = (each_less e.0 es (first_so _ _ h), keys_ascend es (second_so _ _ h))

entered_sorted : (ps : List Problem) → T (is_sorted problem_cmp (entered ps))
entered_sorted [] = tt
entered_sorted (p ∷ ps) = is_sorted-put problem_cmp problem_total p tt (entered ps) (entered_sorted ps)

pub ascending : (d : Dataset) → IsStrictlySortedBy problem_cmp (problems_in d)
ascending d = keys_ascend problem_cmp (entered (filter (is_problem d) (tried d))) (entered_sorted (filter (is_problem d) (tried d)))

-- ---- members

some_first : (b : Bool) (o : Option (Unit {0})) → is_some (cond b (Some tt) o) ≡ (b || is_some o)
some_first true o = refl
some_first false o = refl

entered_found : (p : Problem) (ps : List Problem) → is_some (find problem_cmp p (entered ps)) ≡ lists_problem ps p
entered_found p [] = refl
entered_found p (q ∷ ps) =
    ap is_some (find-put problem_cmp problem_total p q tt (entered ps))
    ∙ some_first (eq_by_cmp problem_cmp p q) (find problem_cmp p (entered ps))
    ∙ ap (λ b. eq_by_cmp problem_cmp p q || b) (entered_found p ps)

pub members : (d : Dataset) (p : Problem) → lists_problem (problems_in d) p ≡ (is_problem d p && lists_problem (tried d) p)
members d p =
    let held = filter (is_problem d) (tried d) in
    sym (is_some-find problem_cmp p (entered held))
    ∙ entered_found p held
    ∙ any-filter_same (eq_by_cmp problem_cmp p) (is_problem d) (is_problem d p)
    (λ q tied. ap (is_problem d) (sym (problem_anti p q ((Equal-is (problem_cmp p q)).0 tied)))) (tried d)

-- ---- the report

tried_too : (holds : Bool) (listed : Bool) → (holds ≡ true → listed ≡ true) → (holds && listed) ≡ holds
tried_too true listed h = h refl
tried_too false listed h = refl

-- the worked problems of a dataset are its report
pub worked_report : (d : Dataset) → IsReport d (problems_in d)
worked_report d = record {
  ascending = ascending d;
  members = λ p. members d p ∙ tried_too (is_problem d p) (lists_problem (tried d) p) (all_tried d p);
}

-- so the lines of a worked report are those of the report that `check` makes, which is the only one
pub worked_lines : (d : Dataset) (ps : List Problem) → IsReport d ps → report_text ps ≡ reported d
worked_lines d ps report = ap report_text (one_report d ps (problems_in d) report (worked_report d))

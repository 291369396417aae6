-- What is reported of the rows of a file in a loop that takes them one after the other.
use Rattle.std.proofs.Common.{◌≡◌, ℕ, List, [], ◌∷◌, ◌++◌, true, false, Bool, refl, sym, ap, ◌∙◌, inl, inr}
use Rattle.std.proofs.lemmas.Bool.{and_from as and_both, cases_Bool}
use Rattle.std.specs.Prelude.{◌&&◌, ◌||◌, ◌==◌}
use Rattle.std.proofs.lemmas.List.Folds.{list_any-append}
use Rattle.std.proofs.Math.Bool.{and-false as and_false}
use Rattle.gtfs_table.specs.Rows.{Row, is_among, is_row, numbers, records_in, rows}
use Rattle.gtfs_table.specs.Tables.{Dataset}
use Rattle.gtfs_table.specs.declared.file.File.{File}
use Rattle.gtfs_table.proofs.RowFacts.{numbers_more, row_among}
use Rattle.gtfs_schema.specs.steps.FoundProblems.{Reports}
use Rattle.gtfs_schema.specs.Problems.{Problem, is_problem}
use Rattle.gtfs_schema.proofs.BoolFacts.{same_test, and_parts}
use Rattle.gtfs_schema.proofs.ReportingFacts.{reports_alike, reports_none, reports_then}

-- the picked problems at a row
abbrev pub at_row : (Problem → Bool) → ℕ → Problem → Bool
at_row picks n p = picks p && (p.row == n)

-- the picked problems at the rows with these numbers
abbrev pub at_rows : (Problem → Bool) → List ℕ → Problem → Bool
at_rows picks ns p = picks p && is_among ns p.row

-- before the first row
pub reported_none : (d : Dataset) (picks : Problem → Bool) (ps : List Problem) → Reports d (at_rows picks []) ps ps
reported_none d picks ps = reports_alike d (λ p. false) (at_rows picks []) ps ps (λ p. ap (λ b. b && is_problem d p) (sym (and_false (picks p)))) (reports_none d ps)

one_row_more : (a b c : Bool) → ((a && b) || (a && c)) ≡ (a && (b || (c || false)))
one_row_more true b true = refl
one_row_more true b false = refl
one_row_more false b c = refl

-- after one more
pub reported_more : (d : Dataset) (picks : Problem → Bool) (taken : List Row) (n : ℕ) (r : List (List ℕ)) (old mid new : List Problem)
    → Reports d (at_rows picks (numbers taken)) old mid → Reports d (at_row picks n) mid new → Reports d (at_rows picks (numbers (taken ++ (n, r) ∷ []))) old new
reported_more d picks taken n r old mid new before here =
    reports_alike d (λ p. at_rows picks (numbers taken) p || at_row picks n p) (at_rows picks (numbers (taken ++ (n, r) ∷ []))) old new
    (λ p. rw (numbers_more taken n r, list_any-append (λ m. p.row == m) (numbers taken) (n ∷ [])) (ap (λ b. b && is_problem d p) (one_row_more (picks p) (is_among (numbers taken) p.row) (p.row == n))))
    (reports_then d (at_rows picks (numbers taken)) (at_row picks n) old mid new before here)

-- after all, where a record that is no row has no picked problem
pub reported_all : (d : Dataset) (x : File) (picks : Problem → Bool) (old new : List Problem)
    → ((p : Problem) → picks p ≡ true → is_row (records_in d x) p.row ≡ false → is_problem d p ≡ false) → Reports d (at_rows picks (rows d x)) old new → Reports d picks old new
reported_all d x picks old new silent reported =
    reports_alike d (at_rows picks (rows d x)) picks old new (λ p. same_test (at_rows picks (rows d x) p && is_problem d p) (picks p && is_problem d p)
    (λ e. let parts = and_parts (at_rows picks (rows d x) p) (is_problem d p) e in
    and_both (picks p) (is_problem d p) ((and_parts (picks p) (is_among (rows d x) p.row) parts.0).0) parts.1)
    (λ e. let parts = and_parts (picks p) (is_problem d p) e in
    and_both (at_rows picks (rows d x) p) (is_problem d p) (and_both (picks p) (is_among (rows d x) p.row) parts.0 (row_among d x p.row (inside p parts.0 parts.1))) parts.1)) reported
  where
    inside : (p : Problem) → picks p ≡ true → is_problem d p ≡ true → is_row (records_in d x) p.row ≡ true
    inside p picked holds = elim (cases_Bool (is_row (records_in d x) p.row)) [
      | inl row ↦ row
      | inr none ↦ cc (sym (silent p picked none) ∙ holds)
    ]

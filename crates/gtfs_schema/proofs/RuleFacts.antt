-- What is reported of the rows that break a rule, at one column.
use Rattle.std.proofs.Common.{◌≡◌, ℕ, List, true, false, Bool, sym, ap, ◌∙◌}
use Rattle.std.specs.Prelude.{◌&&◌}
use Rattle.gtfs_table.specs.Tables.{Dataset}
use Rattle.gtfs_table.specs.declared.file.File.{File}
use Rattle.gtfs_schema.specs.declared.code.Code.{Code}
use Rattle.gtfs_schema.specs.steps.FoundProblems.{Adds, Reports, is_same}
use Rattle.gtfs_schema.specs.steps.KeptColumns.{at_column}
use Rattle.gtfs_schema.specs.Problems.{Problem, holds_in, is_problem}
use Rattle.gtfs_table.specs.Rows.{is_row, records_in}
use Rattle.gtfs_schema.proofs.SiteFacts.{at_column_is, problem_at, same_at_column}
use Rattle.gtfs_schema.proofs.RowFacts.{at_row}
use Rattle.gtfs_schema.proofs.ReportingFacts.{reports_alike, reports_one}

module _ (d : Dataset) (c : Code) (x : File) (name : List ℕ) (breaks : ℕ → Bool)
    (rule : (n : ℕ) → holds_in c d x n name ≡ (is_row (records_in d x) n && breaks n)) where
  -- a record that is no row has no problem there
  pub silent_column : (p : Problem) → at_column c x name p ≡ true → is_row (records_in d x) p.row ≡ false → is_problem d p ≡ false
  silent_column p picked none = ap (is_problem d) (at_column_is c x name p picked) ∙ rule p.row ∙ ap (λ b. b && breaks p.row) none

  pub row_reported : (n : ℕ) (old new : List Problem) → is_row (records_in d x) n ≡ true
      → Adds (λ p. is_same (problem_at c x name n) p && breaks n) old new → Reports d (at_row (at_column c x name) n) old new
  row_reported n old new row adds =
      reports_alike d (is_same (problem_at c x name n)) (at_row (at_column c x name) n) old new
      (λ p. ap (λ b. b && is_problem d p) (same_at_column c x name n p))
      (reports_one d (problem_at c x name n) (breaks n) old new (sym (rule n ∙ ap (λ b. b && breaks n) row)) adds)

-- What is reported of periods that an earlier one meets.
use Rattle.std.proofs.Common.{◌≡◌, ℕ, List, [], ◌∷◌, true, false, Bool, refl, sym, ap, ◌∙◌}
use Rattle.std.specs.Prelude.{◌&&◌, ◌||◌, bytes_eq, codes}
use Rattle.std.proofs.lemmas.Bool.{and_from as and_both, eqb-true as same_number}
use Rattle.gtfs_table.specs.Tables.{Dataset}
use Rattle.gtfs_table.specs.declared.file.File.TheVariants as file
use Rattle.gtfs_schema.specs.declared.code.Code.TheVariants as code
use Rattle.gtfs_schema.specs.steps.FoundProblems.{Adds, Reports, is_same}
use Rattle.gtfs_schema.specs.PeriodRules.{overlaps_earlier}
use Rattle.gtfs_schema.specs.steps.KeptColumns.{at_column, is_kept, of_codes}
use Rattle.gtfs_schema.specs.Problems.{FileName, kept, other, Problem, holds, holds_in, is_code, lists_problem, is_problem}
use Rattle.gtfs_schema.specs.steps.ProblemOrder.{same_file}
use Rattle.gtfs_schema.specs.RowConditions.{file_rank, is_file}
use Rattle.gtfs_table.specs.Rows.{is_row, records_in}
use Rattle.gtfs_schema.proofs.BoolFacts.{and_parts, or_left, same_test}
use Rattle.gtfs_schema.proofs.SiteFacts.{code_is, file_itself, problem_at}
use Rattle.gtfs_schema.proofs.RowFacts.{at_row}
use Rattle.gtfs_schema.proofs.RuleFacts.{row_reported}
use Rattle.gtfs_schema.proofs.ReportingFacts.{reports_alike}

abbrev pub column : List ℕ
column = codes "start_time"

pub at_rows : (d : Dataset) (n : ℕ) → holds_in code.E19 d file.Frequencies n column ≡ (is_row (records_in d file.Frequencies) n && overlaps_earlier d n)
at_rows d n = refl

-- an overlap is reported at its column alone
or_false : (a : Bool) → (a || false) ≡ true → a ≡ true
or_false true e = refl
or_false false e = e

kept_there : (d : Dataset) (f : FileName) (n : ℕ) (name : List ℕ) → holds code.E19 d f n name ≡ true → (is_kept file.Frequencies f && bytes_eq name column) ≡ true
kept_there d (kept x) n name e =
    let parts = and_parts (is_file x file.Frequencies && bytes_eq name column && is_row (records_in d file.Frequencies) n) (overlaps_earlier d n) e in
    let site = and_parts (is_file x file.Frequencies && bytes_eq name column) (is_row (records_in d file.Frequencies) n) parts.0 in
    let names = and_parts (is_file x file.Frequencies) (bytes_eq name column) site.0 in
    let same : x ≡ file.Frequencies = same_file x file.Frequencies (same_number (file_rank x) (file_rank file.Frequencies) names.0) in
    and_both (is_file file.Frequencies x) (bytes_eq name column) (ap (is_file file.Frequencies) same ∙ file_itself file.Frequencies) names.1
kept_there d (other f) n name e = cc e

reported_there : (d : Dataset) (p : Problem) → (at_column code.E19 file.Frequencies column p && is_problem d p) ≡ (of_codes (code.E19 ∷ []) p && is_problem d p)
reported_there d p = same_test (at_column code.E19 file.Frequencies column p && is_problem d p) (of_codes (code.E19 ∷ []) p && is_problem d p)
    (λ e. let parts = and_parts (at_column code.E19 file.Frequencies column p) (is_problem d p) e in
    let site = and_parts (is_code p.code code.E19 && is_kept file.Frequencies p.file) (bytes_eq p.column column) parts.0 in
    let names = and_parts (is_code p.code code.E19) (is_kept file.Frequencies p.file) site.0 in
    and_both (of_codes (code.E19 ∷ []) p) (is_problem d p) (or_left (is_code p.code code.E19) false names.0) parts.1)
    (λ e. let parts = and_parts (of_codes (code.E19 ∷ []) p) (is_problem d p) e in
    let own = or_false (is_code p.code code.E19) parts.0 in
    let holds_there : holds code.E19 d p.file p.row p.column ≡ true = ap (λ c. holds c d p.file p.row p.column) (sym (code_is p.code code.E19 own)) ∙ parts.1 in
    let site = and_parts (is_kept file.Frequencies p.file) (bytes_eq p.column column) (kept_there d p.file p.row p.column holds_there) in
    and_both (at_column code.E19 file.Frequencies column p) (is_problem d p)
    (and_both (is_code p.code code.E19 && is_kept file.Frequencies p.file) (bytes_eq p.column column)
    (and_both (is_code p.code code.E19) (is_kept file.Frequencies p.file) own site.0) site.1) parts.1)

pub overlaps_reported : (d : Dataset) (old new : List Problem) → Reports d (at_column code.E19 file.Frequencies column) old new → Reports d (of_codes (code.E19 ∷ [])) old new
overlaps_reported d old new reported = reports_alike d (at_column code.E19 file.Frequencies column) (of_codes (code.E19 ∷ [])) old new (reported_there d) reported

pub row_asked : (d : Dataset) (n : ℕ) (holds : Bool) (old new : List Problem) → is_row (records_in d file.Frequencies) n ≡ true → holds ≡ overlaps_earlier d n
    → Adds (λ p. is_same (problem_at code.E19 file.Frequencies column n) p && holds) old new → Reports d (at_row (at_column code.E19 file.Frequencies column) n) old new
row_asked d n holds old new row asked adds = row_reported d code.E19 file.Frequencies column (overlaps_earlier d) (at_rows d) n old new row
    (λ p. adds p ∙ ap (λ b. lists_problem old p || (is_same (problem_at code.E19 file.Frequencies column n) p && b)) asked)

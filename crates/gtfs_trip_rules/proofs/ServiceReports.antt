-- Services that never run are reported in both files of services, and nowhere else.
use Rattle.std.proofs.Common.{◌≡◌, ℕ, List, [], ◌∷◌, true, false, Bool, sym, ap, ◌∙◌, inl, inr, ◌⊎◌, arith}
use Rattle.std.specs.Prelude.{◌&&◌, ◌||◌, ◌==◌, codes, bytes_eq, Result, Ok, Err, OnOk}
use Rattle.std.proofs.lemmas.Bool.Decides.{nat_tests}
use Rattle.std.proofs.lemmas.Bool.{and_from as and_both, or_cases}
use Rattle.gtfs_table.specs.Tables.{Dataset}
use Rattle.gtfs_table.specs.declared.file.File.{File}
use Rattle.gtfs_table.specs.declared.file.File.TheVariants as file
use Rattle.gtfs_schema.specs.declared.code.Code.TheVariants as code
use Rattle.gtfs_schema.specs.steps.FoundProblems.{Reports}
use Rattle.gtfs_schema.specs.steps.KeptColumns.{at_column, is_kept, of_codes}
use Rattle.gtfs_schema.specs.Problems.{FileName, kept, other, Problem, holds, is_code, is_problem}
use Rattle.gtfs_schema.specs.RowConditions.{file_rank, is_file, reported_at, Rule}
use Rattle.gtfs_table.specs.Rows.{is_row, records_in}
use Rattle.gtfs_schema.specs.ServiceRules.{is_never_active}
use Rattle.gtfs_schema.proofs.BoolFacts.{and_parts, or_left, or_right, same_test}
use Rattle.gtfs_schema.proofs.SiteFacts.{code_is}
use Rattle.gtfs_schema.proofs.ReportingFacts.{reports_alike, reports_then}

flipped : (a b : ℕ) → (a == b) ≡ true → (b == a) ≡ true
flipped a b h = grind (arith, nat_tests, h)

abbrev reported_in : File → Problem → Bool
reported_in x p = at_column code.W07 x (codes "service_id") p

index_of : (x y : File) (d : Dataset) (rule : Rule) (n : ℕ) (name : List ℕ) → reported_at x "service_id" rule d y n name ≡ true
    → (is_kept x (kept y) ≡ true) × (bytes_eq name (codes "service_id") ≡ true)
index_of x y d rule n name h =
    let first = and_parts (is_file y x && bytes_eq name (codes "service_id") && is_row (records_in d x) n) (rule d n) h in
    let here = and_parts (is_file y x && bytes_eq name (codes "service_id")) (is_row (records_in d x) n) first.0 in
    let parts = and_parts (is_file y x) (bytes_eq name (codes "service_id")) here.0 in
    (flipped (file_rank y) (file_rank x) parts.0, parts.1)

reported_there : (d : Dataset) (f : FileName) (n : ℕ) (name : List ℕ) → holds code.W07 d f n name ≡ true
    → ((is_kept file.Calendar f ≡ true) × (bytes_eq name (codes "service_id") ≡ true)) ⊎ ((is_kept file.CalendarDates f ≡ true) × (bytes_eq name (codes "service_id") ≡ true))
reported_there d (other x) n name h = cc h
reported_there d (kept y) n name h =
    elim (or_cases (reported_at file.Calendar "service_id" (is_never_active file.Calendar) d y n name) _ h) [
      | inl week ↦ inl (index_of file.Calendar y d (is_never_active file.Calendar) n name week)
      | inr rest ↦ elim (or_cases (reported_at file.CalendarDates "service_id" (is_never_active file.CalendarDates) d y n name) false rest) [
        | inl date ↦ inr (index_of file.CalendarDates y d (is_never_active file.CalendarDates) n name date)
        | inr none ↦ cc none
      ]
    ]

column_reported : (x : File) (p : Problem) → is_code p.code code.W07 ≡ true → is_kept x p.file ≡ true → bytes_eq p.column (codes "service_id") ≡ true → reported_in x p ≡ true
column_reported x p c f n = and_both (is_code p.code code.W07 && is_kept x p.file) (bytes_eq p.column (codes "service_id")) (and_both (is_code p.code code.W07) (is_kept x p.file) c f) n

code_reported : (x : File) (p : Problem) → reported_in x p ≡ true → is_code p.code code.W07 ≡ true
code_reported x p h = (and_parts (is_code p.code code.W07) (is_kept x p.file) ((and_parts (is_code p.code code.W07 && is_kept x p.file) (bytes_eq p.column (codes "service_id")) h).0)).0

-- both files have all these problems
both_files : (d : Dataset) (p : Problem) → ((reported_in file.Calendar p || reported_in file.CalendarDates p) && is_problem d p) ≡ (of_codes (code.W07 ∷ []) p && is_problem d p)
both_files d p = same_test ((reported_in file.Calendar p || reported_in file.CalendarDates p) && is_problem d p) (of_codes (code.W07 ∷ []) p && is_problem d p)
    (λ h. let parts = and_parts (reported_in file.Calendar p || reported_in file.CalendarDates p) (is_problem d p) h in
    and_both (of_codes (code.W07 ∷ []) p) (is_problem d p) (or_left (is_code p.code code.W07) false (elim (or_cases (reported_in file.Calendar p) (reported_in file.CalendarDates p) parts.0) [
      | inl week ↦ code_reported file.Calendar p week
      | inr date ↦ code_reported file.CalendarDates p date
    ])) parts.1)
    (λ h. let parts = and_parts (of_codes (code.W07 ∷ []) p) (is_problem d p) h in
    and_both (reported_in file.Calendar p || reported_in file.CalendarDates p) (is_problem d p) (there (only parts.0) parts.1) parts.1)
  where
    only : (is_code p.code code.W07 || false) ≡ true → is_code p.code code.W07 ≡ true
    only h = elim (or_cases (is_code p.code code.W07) false h) [ inl it ↦ it | inr none ↦ cc none ]

    there : is_code p.code code.W07 ≡ true → is_problem d p ≡ true → (reported_in file.Calendar p || reported_in file.CalendarDates p) ≡ true
    there c h = elim (reported_there d p.file p.row p.column (sym (ap (λ x. holds x d p.file p.row p.column) (code_is p.code code.W07 c)) ∙ h)) [
      | inl week ↦ or_left (reported_in file.Calendar p) (reported_in file.CalendarDates p) (column_reported file.Calendar p c week.0 week.1)
      | inr date ↦ or_right (reported_in file.Calendar p) (reported_in file.CalendarDates p) (column_reported file.CalendarDates p c date.0 date.1)
    ]

pub both_reported : {X E : Type 0} (d : Dataset) (old mid new : List Problem) (r : Result X E) → Reports d (reported_in file.Calendar) old mid
    → OnOk r (Reports d (reported_in file.CalendarDates) mid new) → OnOk r (Reports d (of_codes (code.W07 ∷ [])) old new)
both_reported d old mid new (Ok x) weeks dates =
    reports_alike d (λ p. reported_in file.Calendar p || reported_in file.CalendarDates p) (of_codes (code.W07 ∷ [])) old new (both_files d)
    (reports_then d (reported_in file.Calendar) (reported_in file.CalendarDates) old mid new weeks dates)
both_reported d old mid new (Err e) weeks dates = tt

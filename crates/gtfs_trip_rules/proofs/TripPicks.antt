-- Where the problems of the order of stop times are reported.
use Rattle.std.proofs.Common.{◌≡◌, ℕ, List, true, false, Bool, sym, ap, ◌∙◌, inl, inr}
use Rattle.std.specs.Prelude.{◌&&◌, ◌||◌, ◌==◌, ◌∷◌, [], bytes_eq, codes}
use Rattle.std.proofs.lemmas.Bool.{and_from as and_both, eqb-true as same_number, or_cases}
use Prim.Native.String.{String as Literal}
use Rattle.gtfs_field.proofs.NumberFacts.{number_itself}
use Rattle.gtfs_table.specs.Tables.{Dataset}
use Rattle.gtfs_table.specs.declared.file.File.{File}
use Rattle.gtfs_table.specs.declared.file.File.TheVariants as file
use Rattle.gtfs_schema.specs.declared.code.Code.{Code}
use Rattle.gtfs_schema.specs.declared.code.Code.TheVariants as code
use Rattle.gtfs_schema.specs.KeyRules.{key_twice}
use Rattle.gtfs_schema.specs.steps.KeptColumns.{at_column, in_file, is_kept, of_codes}
use Rattle.gtfs_schema.specs.Problems.{FileName, kept, other, Problem, holds, is_code, is_problem}
use Rattle.gtfs_schema.specs.RowConditions.{Rule, file_rank, is_file, reported_at}
use Rattle.gtfs_table.specs.Rows.{is_row, records_in}
use Rattle.gtfs_schema.specs.TripRules.{goes_back, is_end_untimed}
use Rattle.gtfs_trip_rules.specs.StopTimePicks.{breaks_order}
use Rattle.gtfs_schema.proofs.BoolFacts.{and_parts, or_left, or_right, same_test}
use Rattle.gtfs_schema.proofs.SiteFacts.{code_is, file_is}

-- a rule that is reported at one column
in_stop_times : (x : File) → is_file x file.StopTimes ≡ true → is_file file.StopTimes x ≡ true
in_stop_times x e = ap (λ n. 4 == n) (same_number (file_rank x) 4 e) ∙ number_itself 4

reported_site : (d : Dataset) (column : Literal) (rule : Rule) (x : File) (n : ℕ) (name : List ℕ) → reported_at file.StopTimes column rule d x n name ≡ true → (is_file file.StopTimes x && bytes_eq name (codes column)) ≡ true
reported_site d column rule x n name holds =
    let all = and_parts ((is_file x file.StopTimes && bytes_eq name (codes column)) && is_row (records_in d file.StopTimes) n) (rule d n) holds in
    let site = and_parts (is_file x file.StopTimes && bytes_eq name (codes column)) (is_row (records_in d file.StopTimes) n) all.0 in
    let parts = and_parts (is_file x file.StopTimes) (bytes_eq name (codes column)) site.0 in
    and_both (is_file file.StopTimes x) (bytes_eq name (codes column)) (in_stop_times x parts.0) parts.1

end_site : (d : Dataset) (f : FileName) (n : ℕ) (name : List ℕ) → holds code.E15 d f n name ≡ true → (is_kept file.StopTimes f && bytes_eq name (codes "arrival_time")) ≡ true
end_site d (kept x) n name e = reported_site d "arrival_time" is_end_untimed x n name e
end_site d (other x) n name e = cc e

back_site : (d : Dataset) (f : FileName) (n : ℕ) (name : List ℕ) → holds code.E17 d f n name ≡ true → (is_kept file.StopTimes f && bytes_eq name (codes "arrival_time")) ≡ true
back_site d (kept x) n name e = reported_site d "arrival_time" goes_back x n name e
back_site d (other x) n name e = cc e

column_of : (c : Code) (name : List ℕ) (p : Problem) → is_code p.code c ≡ true → (is_kept file.StopTimes p.file && bytes_eq p.column name) ≡ true → at_column c file.StopTimes name p ≡ true
column_of c name p is site =
    let parts = and_parts (is_kept file.StopTimes p.file) (bytes_eq p.column name) site in
    and_both (is_code p.code c && is_kept file.StopTimes p.file) (bytes_eq p.column name) (and_both (is_code p.code c) (is_kept file.StopTimes p.file) is parts.0) parts.1

module _ (d : Dataset) (p : Problem) where
  abbrev pub at_key : Bool
  at_key = at_column code.E09 file.StopTimes (codes "stop_sequence") p

  abbrev pub at_ends : Bool
  at_ends = at_column code.E15 file.StopTimes (codes "arrival_time") p

  abbrev pub at_back : Bool
  at_back = at_column code.E17 file.StopTimes (codes "arrival_time") p

  abbrev picked : Bool
  picked = breaks_order p

  of_code : (c : Code) → is_code p.code c ≡ true → is_problem d p ≡ true → holds c d p.file p.row p.column ≡ true
  of_code c is e = ap (λ c. holds c d p.file p.row p.column) (sym (code_is p.code c is)) ∙ e

  key_site : in_file code.E09 file.StopTimes p ≡ true → is_problem d p ≡ true → at_key ≡ true
  key_site here e =
      let parts = and_parts (is_code p.code code.E09) (is_kept file.StopTimes p.file) here in
      let at : key_twice d file.StopTimes p.row p.column ≡ true = ap (λ f. holds code.E09 d f p.row p.column) (sym (file_is file.StopTimes p.file parts.1)) ∙ of_code code.E09 parts.0 e in
      let named = and_parts (bytes_eq p.column (codes "stop_sequence")) (is_row (records_in d file.StopTimes) p.row) (and_parts (bytes_eq p.column (codes "stop_sequence") && is_row (records_in d file.StopTimes) p.row) _ at).0 in
      and_both (in_file code.E09 file.StopTimes p) (bytes_eq p.column (codes "stop_sequence")) here named.0

  apart : is_problem d p ≡ true → picked ≡ true → ((at_key || at_ends) || at_back) ≡ true
  apart e pick = elim (or_cases (in_file code.E09 file.StopTimes p) (of_codes (code.E15 ∷ code.E17 ∷ []) p) pick) [
    | inl key ↦ or_left (at_key || at_ends) at_back (or_left at_key at_ends (key_site key e))
    | inr rest ↦ elim (or_cases (is_code p.code code.E15) (is_code p.code code.E17 || false) rest) [
      | inl ends ↦ or_left (at_key || at_ends) at_back (or_right at_key at_ends (column_of code.E15 (codes "arrival_time") p ends (end_site d p.file p.row p.column (of_code code.E15 ends e))))
      | inr rest ↦ elim (or_cases (is_code p.code code.E17) false rest) [
        | inl back ↦ or_right (at_key || at_ends) at_back (column_of code.E17 (codes "arrival_time") p back (back_site d p.file p.row p.column (of_code code.E17 back e)))
        | inr none ↦ cc none
      ]
    ]
  ]

  code_of : (c : Code) (name : List ℕ) → at_column c file.StopTimes name p ≡ true → (is_code p.code c && is_kept file.StopTimes p.file) ≡ true
  code_of c name e = (and_parts (is_code p.code c && is_kept file.StopTimes p.file) (bytes_eq p.column name) e).0

  joined : ((at_key || at_ends) || at_back) ≡ true → picked ≡ true
  joined e = elim (or_cases (at_key || at_ends) at_back e) [
    | inl first ↦ elim (or_cases at_key at_ends first) [
      | inl key ↦ or_left (in_file code.E09 file.StopTimes p) (of_codes (code.E15 ∷ code.E17 ∷ []) p) (code_of code.E09 (codes "stop_sequence") key)
      | inr ends ↦
          or_right (in_file code.E09 file.StopTimes p) (of_codes (code.E15 ∷ code.E17 ∷ []) p)
          (or_left (is_code p.code code.E15) (is_code p.code code.E17 || false) (and_parts (is_code p.code code.E15) (is_kept file.StopTimes p.file) (code_of code.E15 (codes "arrival_time") ends)).0)
    ]
    | inr back ↦
        or_right (in_file code.E09 file.StopTimes p) (of_codes (code.E15 ∷ code.E17 ∷ []) p)
        (or_right (is_code p.code code.E15) (is_code p.code code.E17 || false)
        (or_left (is_code p.code code.E17) false (and_parts (is_code p.code code.E17) (is_kept file.StopTimes p.file) (code_of code.E17 (codes "arrival_time") back)).0))
  ]

  pub same_picks : (((at_key || at_ends) || at_back) && is_problem d p) ≡ (picked && is_problem d p)
  same_picks = same_test (((at_key || at_ends) || at_back) && is_problem d p) (picked && is_problem d p)
      (λ e. let parts = and_parts ((at_key || at_ends) || at_back) (is_problem d p) e in and_both picked (is_problem d p) (joined parts.0) parts.1)
      (λ e. let parts = and_parts picked (is_problem d p) e in and_both ((at_key || at_ends) || at_back) (is_problem d p) (apart parts.1 parts.0) parts.1)

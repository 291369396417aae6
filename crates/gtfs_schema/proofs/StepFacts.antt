-- What is reported at columns, and of codes.
use Rattle.std.proofs.Common.{◌≡◌, ℕ, List, [], ◌∷◌, true, false, Bool, sym, ap, ◌∙◌, map, codes, inl, inr}
use Prim.Native.String.{String as Literal}
use Rattle.std.specs.Prelude.{◌&&◌, ◌||◌, ◌==◌, bytes_eq}
use Rattle.std.specs.List.{list_any}
use Rattle.std.proofs.lemmas.Bool.{and_from as and_both, cases_Bool, eqb-true as same_number}
use Rattle.gtfs_table.specs.Tables.{Dataset}
use Rattle.gtfs_table.specs.declared.file.File.{File}
use Rattle.gtfs_schema.specs.declared.code.Code.{Code}
use Rattle.gtfs_schema.specs.declared.code.Code.TheVariants as code
use Rattle.gtfs_schema.specs.steps.FoundProblems.{Reports}
use Rattle.gtfs_schema.specs.steps.KeptColumns.{at_column, in_file, is_kept, of_codes}
use Rattle.gtfs_schema.specs.Problems.{FileName, kept, other, Problem, holds, holds_in, is_code, is_problem}
use Rattle.gtfs_schema.specs.RowConditions.{is_file, file_rank, Rule, Condition, reported_at, any_of}
use Rattle.gtfs_table.specs.Rows.{is_row, records_in}
use Rattle.gtfs_schema.proofs.EachFacts.{any_follows, any_gives}
-- a test alone among none
pub use Rattle.std.proofs.Math.Bool.{or-false as alone}
use Rattle.gtfs_field.proofs.NumberFacts.{number_itself}
use Rattle.gtfs_schema.proofs.BoolFacts.{same_test, and_parts, or_left, or_right}
use Rattle.gtfs_schema.proofs.SiteFacts.{code_is, file_is}
use Rattle.gtfs_schema.proofs.ReportingFacts.{reports_alike}

-- ---- a test that takes in more, and no further problem

reports_wider : (d : Dataset) (narrow wide : Problem → Bool) (xs ys : List Problem)
    → ((p : Problem) → narrow p ≡ true → wide p ≡ true)
    → ((p : Problem) → wide p ≡ true → is_problem d p ≡ true → narrow p ≡ true)
    → Reports d narrow xs ys → Reports d wide xs ys
reports_wider d narrow wide xs ys inside no_more = reports_alike d narrow wide xs ys (λ p. same_test (narrow p && is_problem d p) (wide p && is_problem d p)
    (λ e. let parts = and_parts (narrow p) (is_problem d p) e in and_both (wide p) (is_problem d p) (inside p parts.0) parts.1)
    (λ e. let parts = and_parts (wide p) (is_problem d p) e in and_both (narrow p) (is_problem d p) (no_more p parts.0 parts.1) parts.1))

pub is_file_turned : (x y : File) → is_file x y ≡ true → is_file y x ≡ true
is_file_turned x y e = ap (λ n. n == file_rank x) (sym (same_number (file_rank x) (file_rank y) e)) ∙ number_itself (file_rank x)

-- ---- columns

-- in the file the code is reported at these columns alone
abbrev pub AtColumns : Dataset → Code → File → List Literal → Type 0
AtColumns d c x columns = (n : ℕ) (name : List ℕ) → holds_in c d x n name ≡ true → list_any (λ column. bytes_eq name (codes column)) columns ≡ true

abbrev pub at_columns : Code → File → List Literal → Problem → Bool
at_columns c x columns p = list_any (λ column. at_column c x (codes column) p) columns

module _ (d : Dataset) (c : Code) (x : File) (columns : List Literal) (only : AtColumns d c x columns) where
  at_one : (p : Problem) → in_file c x p ≡ true → is_problem d p ≡ true → at_columns c x columns p ≡ true
  at_one p picked e =
      let parts = and_parts (is_code p.code c) (is_kept x p.file) picked in
      any_follows (λ column. bytes_eq p.column (codes column)) (λ column. at_column c x (codes column) p) columns
      (λ column here. and_both (in_file c x p) (bytes_eq p.column (codes column)) picked here)
      (only p.row p.column (sym (λ i. holds (code_is p.code c parts.0 i) d (file_is x p.file parts.1 i) p.row p.column) ∙ e))

  -- picked at these columns or in the file: the same problems
  pub column_alike : (p : Problem) → (at_columns c x columns p && is_problem d p) ≡ (in_file c x p && is_problem d p)
  column_alike p = same_test (at_columns c x columns p && is_problem d p) (in_file c x p && is_problem d p)
      (λ e. let parts = and_parts (at_columns c x columns p) (is_problem d p) e in
      and_both (in_file c x p) (is_problem d p)
      (any_gives (λ column. at_column c x (codes column) p) (in_file c x p) columns (λ column here. (and_parts (in_file c x p) (bytes_eq p.column (codes column)) here).0) parts.0) parts.1)
      (λ e. let parts = and_parts (in_file c x p) (is_problem d p) e in
      and_both (at_columns c x columns p) (is_problem d p) (at_one p parts.0 parts.1) parts.1)

-- ---- rules reported at columns

-- a rule, the file whose rows it is about, and the column at which it is reported
abbrev pub Reported : Type 0
Reported = File × Literal × Rule

abbrev pub condition_of : List Reported → Condition
condition_of rules = any_of (map (λ t. reported_at t.0 t.1 t.2) rules)

-- the problem stands where one of the rules is reported
pub reported_there : (rules : List Reported) (d : Dataset) (x : File) (n : ℕ) (name : List ℕ) → condition_of rules d x n name ≡ true
    → list_any (λ t. is_file x t.0 && bytes_eq name (codes t.1)) rules ≡ true
reported_there [] d x n name e = e
reported_there (t ∷ rules) d x n name e = elim (cases_Bool (reported_at t.0 t.1 t.2 d x n name)) [
  | inl here ↦
      let site = is_file x t.0 && bytes_eq name (codes t.1) in
      or_left site _ (and_parts site (is_row (records_in d t.0) n) (and_parts (site && is_row (records_in d t.0) n) (t.2 d n) here).0).0
  | inr there ↦ or_right (is_file x t.0 && bytes_eq name (codes t.1)) _ (reported_there rules d x n name (rw there at e))
]

-- of all rules the one that is reported at this column decides
pub reported_as : (row breaks rule : Bool) → breaks ≡ rule → ((row && rule) || false) ≡ (row && breaks)
reported_as row breaks rule same = alone (row && rule) ∙ ap (λ b. row && b) (sym same)

-- ---- a code that is one rule, reported at one column

module _ (d : Dataset) (c : Code) (x : File) (column : Literal) (rule : Rule)
    (of_files : is_code c code.W03 ≡ false) (is_rule : (y : File) (n : ℕ) (name : List ℕ) → holds_in c d y n name ≡ reported_at x column rule d y n name) where
  one_site : (y : File) (n : ℕ) (name : List ℕ) → holds_in c d y n name ≡ true → (is_file y x ≡ true) × (bytes_eq name (codes column) ≡ true)
  one_site y n name e =
      let site = is_file y x && bytes_eq name (codes column) in
      let reported = and_parts (site && is_row (records_in d x) n) (rule d n) (sym (is_rule y n name) ∙ e) in
      and_parts (is_file y x) (bytes_eq name (codes column)) (and_parts site (is_row (records_in d x) n) reported.0).0

  at_rule : (f : FileName) (k : Code) (n : ℕ) (name : List ℕ) → is_code k c ≡ true → holds k d f n name ≡ true
      → (is_code k c && is_kept x f && bytes_eq name (codes column)) ≡ true
  at_rule (kept y) k n name same e =
      let site = one_site y n name (ap (λ j. holds_in j d y n name) (sym (code_is k c same)) ∙ e) in
      and_both (is_code k c && is_file x y) (bytes_eq name (codes column)) (and_both (is_code k c) (is_file x y) same (is_file_turned y x site.0)) site.1
  at_rule (other t) k n name same e =
      cc (sym of_files ∙ ap (λ j. is_code j code.W03) (sym (code_is k c same)) ∙ (and_parts (is_code k code.W03) _ e).0)

  pub reports_rule : (xs ys : List Problem) → Reports d (at_column c x (codes column)) xs ys → Reports d (of_codes (c ∷ [])) xs ys
  reports_rule xs ys = reports_wider d (at_column c x (codes column)) (of_codes (c ∷ [])) xs ys
      (λ p e. or_left (is_code p.code c) false (and_parts (is_code p.code c) (is_kept x p.file) (and_parts (is_code p.code c && is_kept x p.file) (bytes_eq p.column (codes column)) e).0).0)
      (λ p picked e. at_rule p.file p.code p.row p.column (sym (alone (is_code p.code c)) ∙ picked) e)

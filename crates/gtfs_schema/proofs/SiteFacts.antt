-- A problem is known by its code, its file, its column and its row.
use Rattle.std.proofs.Common.{◌≡◌, ℕ, List, Bool, true, refl, sym, ap, ◌∙◌}
use Rattle.std.specs.Prelude.{◌&&◌, ◌==◌, bytes_eq}
use Rattle.std.specs.Cmp.{Equal-is, tied_itself}
use Rattle.std.specs.List.{list_any}
use Rattle.std.proofs.lemmas.Bool.{eqb-true, and_from as and_both}
use Rattle.std.proofs.lemmas.Slice.Eq.{bytes_eq-Decides}
use Rattle.gtfs_field.proofs.NumberFacts.{number_itself}
use Rattle.gtfs_table.specs.declared.file.File.{File}
use Rattle.gtfs_schema.specs.declared.code.Code.{Code}
use Rattle.gtfs_schema.specs.Codes.{code_rank}
use Rattle.gtfs_schema.specs.steps.FoundProblems.{is_same}
use Rattle.gtfs_schema.specs.steps.KeptColumns.{at_column, is_kept}
use Rattle.gtfs_schema.specs.Problems.{FileName, kept, other, Problem, is_code, problem_cmp}
use Rattle.gtfs_schema.specs.steps.ProblemOrder.{problem_anti, problem_total, same_code, same_file}
use Rattle.gtfs_schema.specs.RowConditions.{is_file, file_rank}
use Rattle.gtfs_schema.proofs.BoolFacts.{same_test, and_parts}

pub code_is : (a b : Code) → is_code a b ≡ true → a ≡ b
code_is a b e = same_code a b (eqb-true (code_rank a) (code_rank b) e)

pub code_itself : (a : Code) → is_code a a ≡ true
code_itself a = number_itself (code_rank a)

pub file_is : (x : File) (f : FileName) → is_kept x f ≡ true → f ≡ kept x
file_is x (kept y) e = ap kept (sym (same_file x y (eqb-true (file_rank x) (file_rank y) e)))
file_is x (other name) e = cc e

pub file_itself : (x : File) → is_file x x ≡ true
file_itself x = number_itself (file_rank x)

pub text_is : (a b : List ℕ) → bytes_eq a b ≡ true → a ≡ b
text_is a b e = (bytes_eq-Decides a b).0 e

pub text_itself : (a : List ℕ) → bytes_eq a a ≡ true
text_itself a = (bytes_eq-Decides a a).1 refl

-- the very problem
pub is_same_is : (q p : Problem) → is_same q p ≡ true → p ≡ q
is_same_is q p e = problem_anti p q ((Equal-is (problem_cmp p q)).0 e)

pub same_itself : (p : Problem) → is_same p p ≡ true
same_itself p = (Equal-is (problem_cmp p p)).1 (tied_itself problem_total p)

abbrev pub problem_at : Code → File → List ℕ → ℕ → Problem
problem_at c x name n = record { file = kept x; row = n; code = c; column = name }

-- a problem at a column is known by its row
pub at_column_is : (c : Code) (x : File) (name : List ℕ) (p : Problem) → at_column c x name p ≡ true → p ≡ problem_at c x name p.row
at_column_is c x name p e =
    let parts = and_parts (is_code p.code c && is_kept x p.file) (bytes_eq p.column name) e in
    let first = and_parts (is_code p.code c) (is_kept x p.file) parts.0 in
    λ i. record { file = file_is x p.file first.1 i; row = p.row; code = code_is p.code c first.0 i; column = text_is p.column name parts.1 i }

pub at_column_itself : (c : Code) (x : File) (name : List ℕ) (n : ℕ) → at_column c x name (problem_at c x name n) ≡ true
at_column_itself c x name n = and_both (is_code c c && is_file x x) (bytes_eq name name)
    (and_both (is_code c c) (is_file x x) (code_itself c) (file_itself x)) (text_itself name)

pub same_at_column : (c : Code) (x : File) (name : List ℕ) (n : ℕ) (p : Problem)
    → is_same (problem_at c x name n) p ≡ (at_column c x name p && (p.row == n))
same_at_column c x name n p = same_test (is_same (problem_at c x name n) p) (at_column c x name p && (p.row == n))
    (λ e. ap (λ q. at_column c x name q && (q.row == n)) (is_same_is (problem_at c x name n) p e)
    ∙ and_both (at_column c x name (problem_at c x name n)) (n == n) (at_column_itself c x name n) (number_itself n))
    (λ e. let parts = and_parts (at_column c x name p) (p.row == n) e in
    ap (is_same (problem_at c x name n)) (at_column_is c x name p parts.0 ∙ ap (problem_at c x name) (eqb-true p.row n parts.1))
    ∙ same_itself (problem_at c x name n))

-- a file's column is one of these
abbrev pub is_site : List (File × List ℕ) → File → List ℕ → Bool
is_site sites x name = list_any (λ site. is_file site.0 x && bytes_eq name site.1) sites

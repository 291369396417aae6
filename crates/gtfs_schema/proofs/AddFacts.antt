-- What is added to the problems that were found.
use Rattle.std.proofs.Common.{◌≡◌, ℕ, List, true, false, Bool, refl, ap, ◌∙◌, Some}
use Rattle.std.specs.Prelude.{◌&&◌, ◌||◌, ◌==◌, bytes_eq}
use Rattle.gtfs_table.specs.declared.file.File.{File}
use Rattle.gtfs_schema.specs.declared.code.Code.{Code}
use Rattle.gtfs_schema.specs.steps.FieldCodes.{is_found_at, is_in_row}
use Rattle.gtfs_schema.specs.steps.FoundProblems.{Adds, is_same}
use Rattle.gtfs_schema.specs.steps.KeptColumns.{is_kept}
use Rattle.gtfs_schema.specs.Problems.{Problem, is_code, lists_problem}
use Rattle.gtfs_schema.proofs.SiteFacts.{problem_at, same_at_column}

pub adds_alike : (s t : Problem → Bool) (xs ys : List Problem) → ((p : Problem) → s p ≡ t p) → Adds s xs ys → Adds t xs ys
adds_alike s t xs ys same added p = added p ∙ ap (λ b. lists_problem xs p || b) (same p)

four_tests : (c f n r : Bool) → ((((c && f) && n) && r) && true) ≡ ((f && r) && (n && c))
four_tests true true true true = refl
four_tests true true true false = refl
four_tests true true false true = refl
four_tests true true false false = refl
four_tests true false n r = refl
four_tests false true true true = refl
four_tests false true true false = refl
four_tests false true false true = refl
four_tests false true false false = refl
four_tests false false n r = refl

-- a code was found
pub adds_found : (c : Code) (x : File) (n : ℕ) (name : List ℕ) (xs ys : List Problem)
    → Adds (λ p. is_same (problem_at c x name n) p && true) xs ys → Adds (λ p. is_in_row x n p && is_found_at (Some c) name p) xs ys
adds_found c x n name xs ys = adds_alike (λ p. is_same (problem_at c x name n) p && true) (λ p. is_in_row x n p && is_found_at (Some c) name p) xs ys
    (λ p. ap (λ b. b && true) (same_at_column c x name n p) ∙ four_tests (is_code p.code c) (is_kept x p.file) (bytes_eq p.column name) (p.row == n))

-- What two rules report of a row, one after the other.
use Rattle.std.proofs.Common.{◌≡◌, ℕ, List, Bool, true, false, refl, ap}
use Rattle.std.specs.Prelude.{◌&&◌, ◌||◌, ◌==◌}
use Rattle.gtfs_table.specs.Tables.{Dataset}
use Rattle.gtfs_schema.specs.Problems.{Problem, is_problem}
use Rattle.gtfs_schema.proofs.ReportingFacts.{reports_alike, reports_then}
use Rattle.gtfs_row_rules.specs.RowRules.{Picks, ReportsOfRow}

either_here : (a b r : Bool) → ((a && r) || (b && r)) ≡ ((a || b) && r)
either_here true b true = refl
either_here true true false = refl
either_here true false false = refl
either_here false b r = refl

pub reports_both : (d : Dataset) (a b : Picks) (n : ℕ) (xs ys zs : List Problem) → ReportsOfRow d a n xs ys → ReportsOfRow d b n ys zs
    → ReportsOfRow d (λ p. a p || b p) n xs zs
reports_both d a b n xs ys zs first second =
    reports_alike d (λ p. (a p && (p.row == n)) || (b p && (p.row == n))) (λ p. (a p || b p) && (p.row == n)) xs zs
    (λ p. ap (λ t. t && is_problem d p) (either_here (a p) (b p) (p.row == n)))
    (reports_then d (λ p. a p && (p.row == n)) (λ p. b p && (p.row == n)) xs ys zs first second)

-- Errors and warnings are counted.
use Rattle.std.proofs.Common.{◌≡◌, ◌∙◌, ap, refl, ℕ, ◌+◌, Bool, true, false, not, ◌&&◌, cond, nat_lt, List, [], ◌∷◌, ◌++◌, codes, length, arith}
use Rattle.std.specs.Prelude.{count_by, decimal}
use Rattle.std.specs.List.{list_all}
use Rattle.std.proofs.lemmas.Grind.{common_steps}
use Rattle.std.proofs.lemmas.List.Sums.{sum_by-cons}
use Rattle.gtfs_schema.specs.Codes.{is_error}
use Rattle.gtfs_schema.specs.Problems.{Problem, passes}
use Rattle.gtfs_rules.specs.Report.{counts_line}
use Rattle.gtfs_cli.specs.CheckLines.{counts_text}

pub count-cons : {X : Type 0} (p : X → Bool) (x : X) (xs : List X) → count_by p (x ∷ xs) ≡ cond (p x) 1 0 + count_by p xs
count-cons p x xs = sum_by-cons (λ y. cond (p y) 1 0) x xs

-- what passes a test and what does not are all
pub all-counted : {X : Type 0} (p : X → Bool) (xs : List X) → count_by p xs + count_by (λ x. not (p x)) xs ≡ length xs
all-counted p [] = refl
all-counted p (x ∷ xs) =
    step (p x) _ _ _ _ _ _ (count-cons p x xs) (count-cons (λ y. not (p y)) x xs) (omega arith) (all-counted p xs)
  where
    step : (b : Bool) (m n k i j l : ℕ) → i ≡ cond b 1 0 + m → j ≡ cond (not b) 1 0 + n → l ≡ k + 1 → m + n ≡ k → i + j ≡ l
    step true m n k i j l first second longer e = omega (arith, first, second, longer, e)
    step false m n k i j l first second longer e = omega (arith, first, second, longer, e)

some-counted : {X : Type 0} (p : X → Bool) (xs : List X) → nat_lt 0 (count_by p xs) ≡ not (list_all (λ x. not (p x)) xs)
some-counted p [] = refl
some-counted p (x ∷ xs) = ap (λ n. nat_lt 0 n) (count-cons p x xs) ∙ step (p x) (count_by p xs) (list_all (λ y. not (p y)) xs) (some-counted p xs)
  where
    step : (b : Bool) (m : ℕ) (all : Bool) → nat_lt 0 m ≡ not all → nat_lt 0 (cond b 1 0 + m) ≡ not (not b && all)
    step true m all e = grind (arith, common_steps)
    step false m all e = let same : 0 + m ≡ m = omega arith in ap (λ n. nat_lt 0 n) same ∙ e

-- the line of the counts
pub counts-line : (ps : List Problem) (errors warnings : ℕ) → errors ≡ count_by (λ p. is_error p.code) ps → errors + warnings ≡ length ps
    → counts_text errors warnings ≡ counts_line ps
counts-line ps errors warnings e all =
    let rest : warnings ≡ count_by (λ p. not (is_error p.code)) ps = omega (arith, e, all, all-counted (λ (p : Problem). is_error p.code) ps) in
    ap (λ n. codes "errors " ++ decimal n ++ codes " warnings " ++ decimal warnings ++ codes "\n") e
    ∙ ap (λ n. codes "errors " ++ decimal (count_by (λ (p : Problem). is_error p.code) ps) ++ codes " warnings " ++ decimal n ++ codes "\n") rest

-- whether there is an error
pub error-counted : (ps : List Problem) (errors : ℕ) → errors ≡ count_by (λ p. is_error p.code) ps → nat_lt 0 errors ≡ not (passes ps)
error-counted ps errors e = ap (λ n. nat_lt 0 n) e ∙ some-counted (λ (p : Problem). is_error p.code) ps

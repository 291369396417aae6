-- Problems as they are found: lists in any order, and what a step adds to one.
use Rattle.std.specs.Prelude.{◌≡◌, ◌&&◌, ◌||◌, Bool, List}
use Rattle.std.specs.Ordering.{is_eq}
use Rattle.gtfs_table.specs.Tables.{Dataset}
use Rattle.gtfs_schema.specs.Problems.{Problem, problem_cmp, lists_problem, is_problem}

-- a list has the problems that it had and those that pass the test, and no other
abbrev pub Adds : (Problem → Bool) → List Problem → List Problem → Type 0
Adds test old new = (p : Problem) → lists_problem new p ≡ (lists_problem old p || test p)

-- of the problems that a test picks just those that the dataset has were added
abbrev pub Reports : Dataset → (Problem → Bool) → List Problem → List Problem → Type 0
Reports d picks old new = Adds (λ p. picks p && is_problem d p) old new

-- the list has the problems of the dataset, and no other
abbrev pub ListsAll : Dataset → List Problem → Type 0
ListsAll d ps = (p : Problem) → lists_problem ps p ≡ is_problem d p

-- the very problem
abbrev pub is_same : Problem → Problem → Bool
is_same q p = is_eq (problem_cmp p q)

-- both lists have the same problems
abbrev pub SameProblems : List Problem → List Problem → Type 0
SameProblems old new = (p : Problem) → lists_problem new p ≡ lists_problem old p

-- a dataset, and a list of problems
pub record Checked : Type 0 where
  pub dataset : Dataset
  pub problems : List Problem

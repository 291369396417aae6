-- How many problems there are of each kind, as the code counts them.
use Rattle.std.specs.Prelude.{ℕ, ◌==◌, if◌then◌else◌, Option, None, Some}
use Rattle.std.specs.BTreeMap.{get}
use Rattle.std.specs.declared.cmp.Ordering.{Ordering}
use Rattle.gtfs_schema.specs.Problems.{problem_cmp}
use Rattle.gtfs_schema.specs.ProblemTexts.{problem_of}
use Rattle.gtfs_schema.specs.declared.problem.Problem.{Problem as Lent}
use Rattle.gtfs_cli.specs.declared.commands.check.kind_counts.KindCounts.{KindCounts}

abbrev pub lent_cmp : Lent → Lent → Ordering
lent_cmp a b = problem_cmp (problem_of a) (problem_of b)

-- the number that is held for the kind of a problem, which is a problem of no row
abbrev pub held_for : KindCounts → Lent → Option ℕ
held_for counts p = get lent_cmp counts.counts (record p { row = 0 })

-- a number of problems, and none where there are none
abbrev pub if_any : ℕ → Option ℕ
if_any count = if count == 0 then None else Some count

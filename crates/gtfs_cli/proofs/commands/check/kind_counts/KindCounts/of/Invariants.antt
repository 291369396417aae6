use Rattle.std.proofs.Common.{◌≡◌, map, take}
use Rattle.std.specs.BTreeMap.{get}
use Rattle.gtfs_schema.specs.ProblemTexts.{problem_of}
use Rattle.gtfs_schema.specs.declared.problem.Problem.{Problem as Lent}
use Rattle.gtfs_cli.specs.CheckLines.{count_alike}
use Rattle.gtfs_cli.specs.CountsByKind.{if_any, lent_cmp}
use Rattle.gtfs_cli.proofs.commands.check.kind_counts.KindCounts.of.Given as goal

-- the problems before are counted
abbrev pub invariant-loop-problem : goal.invariant-loop-problem
invariant-loop-problem l = (q : Lent) → get lent_cmp l.counts (record q { row = 0 }) ≡ if_any (count_alike (take l.problem-index (map problem_of l.problems)) (problem_of q))

use Rattle.std.proofs.Common.{◌≡◌, None, cond, map, take}
use Rattle.std.specs.List.{list_any}
use Rattle.gtfs_schema.specs.ProblemTexts.{problem_of}
use Rattle.gtfs_schema.specs.declared.problem.Problem.{Problem as Lent}
use Rattle.gtfs_cli.specs.CheckLines.{count_alike, is_alike, shown_line}
use Rattle.gtfs_cli.specs.FirstOfEachKind.{firsts}
use Rattle.gtfs_cli.specs.CountsByKind.{held_for, if_any}
use Rattle.gtfs_cli.specs.SentText.{joined}
use Rattle.gtfs_cli.proofs.Sent.{output, SentWhole}
use Rattle.gtfs_cli.proofs.commands.check.printed_problems.print_kinds.Given as goal

abbrev pub invariant-loop-problem : goal.invariant-loop-problem
invariant-loop-problem g l = record {
  counts : (q : Lent) → held_for l.counts q
      ≡ cond (list_any (is_alike (problem_of q)) (take l.problem-index (map problem_of l.problems))) None (if_any (count_alike (map problem_of l.problems) (problem_of q)));
  sent : SentWhole (joined (take l.problem-index (firsts is_alike (shown_line l.values l.tables) (map problem_of l.problems))))
      (output (g.O.Out.told l.initial.out) (g.O.Out.failure_count l.initial.out)) (output (g.O.Out.told l.out) (g.O.Out.failure_count l.out));
}

use Rattle.std.proofs.Common.{map, take, None}
use Rattle.gtfs_schema.specs.ProblemTexts.{problem_of}
use Rattle.gtfs_cli.specs.CheckLines.{shown_line}
use Rattle.gtfs_cli.specs.SentText.{joined}
use Rattle.gtfs_cli.proofs.Sent.{output, SentWhole}
use Rattle.gtfs_cli.proofs.commands.check.printed_problems.print_each.Given as goal

abbrev pub invariant-loop-problem : goal.invariant-loop-problem
invariant-loop-problem g l =
    SentWhole (joined (take l.problem-index (map (λ p. shown_line l.values l.tables p None) (map problem_of l.problems)))) (output (g.O.Out.told l.initial.out) (g.O.Out.failure_count l.initial.out))
    (output (g.O.Out.told l.out) (g.O.Out.failure_count l.out))

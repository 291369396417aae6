use Rattle.std.proofs.Common.{ℕ, List, [], ◌∷◌, Option, ap}
use Rattle.gtfs_schema.specs.ProblemTexts.{problem_of}
use Rattle.gtfs_cli.specs.CheckLines.{line_with}
use Rattle.gtfs_cli.proofs.SentLines.{lines-same}
use Rattle.gtfs_cli.proofs.commands.check.printed_problems.print_shown.Goals as goal

pub returns : goal.returns
returns g c = lines-same _ _ _ _ c.print_line.result
    (ap (λ (v : Option (List ℕ)). line_with (problem_of c.args.problem.now) v c.args.count ∷ []) c.shown_value-value.ensures) c.print_line.ensures

use Rattle.std.proofs.Common.{codes, string_bytes}
use Rattle.std.specs.Prelude.{option_map}
use Rattle.gtfs_schema.specs.ProblemTexts.{problem_of}
use Rattle.gtfs_rules.specs.Report.{problem_line}
use Rattle.gtfs_cli.specs.CheckLines.{count_shown, values_shown, without_end}
use Rattle.gtfs_cli.proofs.ShownValues.{four-parts, pushed-as}
use Rattle.gtfs_cli.proofs.report.problem_line.push_line.Goals as goal

pub returns : goal.returns
returns c =
    pushed-as c.push_str.result _ _ _ _ c.push_str.ensures.bytes
    (four-parts (string_bytes c.args.text.now) (without_end (problem_line (problem_of c.args.problem.now))) (values_shown (option_map (λ v. v.now) c.args.value))
    (count_shown c.args.count) (codes "\n") _ _ _ c.in_ok-push_problem.ensures c.in_ok-push_shown_value.ensures c.in_ok-push_shown_count.ensures)

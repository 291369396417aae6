use Rattle.std.proofs.Common.{[], ◌∷◌, string_bytes}
use Rattle.std.specs.Prelude.{option_map}
use Rattle.gtfs_schema.specs.ProblemTexts.{problem_of}
use Rattle.gtfs_cli.specs.CheckLines.{line_with}
use Rattle.gtfs_cli.proofs.Sent.{sent-made}
use Rattle.gtfs_cli.proofs.SentLines.{line-sent, lines-unmade}
use Rattle.gtfs_cli.proofs.commands.check.printed_problems.print_line.Goals as goal

pub returns-in_err-push_line : goal.returns-in_err-push_line
returns-in_err-push_line g c =
    lines-unmade (line_with (problem_of c.args.problem.now) (option_map (λ v. v.now) c.args.value) c.args.count ∷ []) _ c.from_residual.result c.from_residual.ensures.1

pub returns : goal.returns
returns g c =
    let line = line_with (problem_of c.args.problem.now) (option_map (λ v. v.now) c.args.value) c.args.count in
    line-sent line _ _ c.send.result
    (sent-made line c.as_bytes.result.now (string_bytes c.push_line.new.text) (string_bytes c.clear.new.self) _ _ c.send.result
    c.as_bytes.ensures.value c.in_ok-push_line.ensures c.clear.ensures.bytes c.send.ensures.sent)
    c.send.ensures.failed

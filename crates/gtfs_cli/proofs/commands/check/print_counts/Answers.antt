use Rattle.std.proofs.Common.{[], ◌∷◌, string_bytes}
use Rattle.gtfs_cli.specs.CheckLines.{counts_text}
use Rattle.gtfs_cli.proofs.Sent.{sent-made}
use Rattle.gtfs_cli.proofs.SentLines.{line-sent, lines-unmade}
use Rattle.gtfs_cli.proofs.commands.check.print_counts.Goals as goal

pub returns-in_err-push_counts : goal.returns-in_err-push_counts
returns-in_err-push_counts g c = lines-unmade (counts_text c.args.errors c.args.warnings ∷ []) _ c.from_residual.result c.from_residual.ensures.1

pub returns : goal.returns
returns g c =
    let line = counts_text c.args.errors c.args.warnings in
    line-sent line _ _ c.send.result
    (sent-made line c.as_bytes.result.now (string_bytes c.push_counts.new.text) (string_bytes c.clear.new.self) _ _ c.send.result
    c.as_bytes.ensures.value c.in_ok-push_counts.ensures.appended c.clear.ensures.bytes c.send.ensures.sent)
    c.send.ensures.failed

use Rattle.std.proofs.Common.{[], ◌∷◌, string_bytes}
use Rattle.gtfs_cli.specs.AdviceLines.{advised_text}
use Rattle.gtfs_cli.proofs.Sent.{sent-made}
use Rattle.gtfs_cli.proofs.SentLines.{line-sent, lines-unmade}
use Rattle.gtfs_cli.proofs.commands.check.print_advised.Goals as goal

pub returns-in_err-push_advised : goal.returns-in_err-push_advised
returns-in_err-push_advised g c = lines-unmade (advised_text c.args.errors c.args.warnings c.args.advice ∷ []) _ c.from_residual.result c.from_residual.ensures.1

pub returns : goal.returns
returns g c =
    let line = advised_text c.args.errors c.args.warnings c.args.advice in
    line-sent line _ _ c.send.result
    (sent-made line c.as_bytes.result.now (string_bytes c.push_advised.new.text) (string_bytes c.clear.new.self) _ _ c.send.result
    c.as_bytes.ensures.value c.in_ok-push_advised.ensures c.clear.ensures.bytes c.send.ensures.sent)
    c.send.ensures.failed

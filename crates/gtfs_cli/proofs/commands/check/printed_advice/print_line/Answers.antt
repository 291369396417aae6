use Rattle.std.proofs.Common.{[], ◌∷◌, string_bytes}
use Rattle.gtfs_advice.specs.Advice.{advice_of}
use Rattle.gtfs_cli.specs.AdviceLines.{advice_line}
use Rattle.gtfs_cli.proofs.Sent.{sent-made}
use Rattle.gtfs_cli.proofs.SentLines.{line-sent, lines-unmade}
use Rattle.gtfs_cli.proofs.commands.check.printed_advice.print_line.Goals as goal

pub returns-in_err-push_advice : goal.returns-in_err-push_advice
returns-in_err-push_advice g c =
    lines-unmade (advice_line (advice_of c.args.feed.now c.args.one.now) c.args.count ∷ []) _ c.from_residual.result c.from_residual.ensures.1

pub returns : goal.returns
returns g c =
    let line = advice_line (advice_of c.args.feed.now c.args.one.now) c.args.count in
    line-sent line _ _ c.send.result
    (sent-made line c.as_bytes.result.now (string_bytes c.push_advice.new.text) (string_bytes c.clear.new.self) _ _ c.send.result
    c.as_bytes.ensures.value c.in_ok-push_advice.ensures c.clear.ensures.bytes c.send.ensures.sent)
    c.send.ensures.failed

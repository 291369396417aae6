use Rattle.std.proofs.Common.{◌∙◌, ap, map}
use Rattle.gtfs_rows.specs.RowsInMemory.{content_of_parts}
use Rattle.gtfs_advice.specs.Advice.{advice, advice_of}
use Rattle.gtfs_cli.specs.AdviceLines.{advice_lines}
use Rattle.gtfs_cli.proofs.SentLines.{lines-passed, lines-same, lines-unmade, lines-whole}
use Rattle.gtfs_cli.proofs.commands.check.printed_advice.print_advice.Goals as goal

pub returns-in_err-advice-clause-sent : goal.returns-in_err-advice-clause-sent
returns-in_err-advice-clause-sent g c =
    lines-unmade (advice_lines c.args.summary (advice (content_of_parts c.args.feed.now) c.args.day)) _ c.from_residual.result c.from_residual.ensures.1

pub returns-in_err-print_lines-clause-sent : goal.returns-in_err-print_lines-clause-sent
returns-in_err-print_lines-clause-sent g c =
    lines-passed (advice_lines c.args.summary (advice (content_of_parts c.args.feed.now) c.args.day)) _ _ _ c.from_residual-in_err-print_lines.result c.from_residual-in_err-print_lines.ensures.1
    (lines-same _ _ _ _ _ (ap (advice_lines c.args.summary) (ap (map (advice_of c.args.feed.now)) c.as_slice.ensures ∙ c.in_ok-advice.ensures.told)) c.in_err-print_lines.ensures)

pub returns-clause-sent : goal.returns-clause-sent
returns-clause-sent g c =
    lines-whole (advice_lines c.args.summary (advice (content_of_parts c.args.feed.now) c.args.day)) _ _ _ _
    (lines-same _ _ _ _ _ (ap (advice_lines c.args.summary) (ap (map (advice_of c.args.feed.now)) c.as_slice.ensures ∙ c.in_ok-advice.ensures.told)) c.in_ok-print_lines.ensures)

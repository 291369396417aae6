use Rattle.std.proofs.Common.{sym}
use Rattle.gtfs_cli.specs.RestOfCheck.{lines_after}
use Rattle.gtfs_cli.proofs.Checked.{advice-cut, advice-ended, counts-left, no-draft}
use Rattle.gtfs_cli.proofs.SentLines.{lines-passed, lines-same, lines-unmade, lines-whole}
use Rattle.gtfs_cli.proofs.commands.check.print_rest.Goals as goal

pub returns-in_err-print_counts-clause-sent : goal.returns-in_err-print_counts-clause-sent
returns-in_err-print_counts-clause-sent g c =
    lines-passed (lines_after c.args.words.now.summary c.args.day c.args.begun) _ _ _ c.from_residual.result c.from_residual.ensures.1
    (lines-same _ _ _ _ _ (sym (counts-left c.args.words.now.summary c.args.day c.args.begun (no-draft c.args.begun c.in_default.not-Some))) c.in_err-print_counts.ensures)

pub returns-in_err-feed-clause-sent : goal.returns-in_err-feed-clause-sent
returns-in_err-feed-clause-sent g c = lines-unmade (lines_after c.args.words.now.summary c.args.day c.args.begun) _ c.from_residual-in_err-feed.result c.from_residual-in_err-feed.ensures.1

pub returns-in_err-count-clause-sent : goal.returns-in_err-count-clause-sent
returns-in_err-count-clause-sent g c =
    advice-cut c.args.words.now.summary c.args.day c.args.begun c.in-Some.draft c.in_ok-feed.feed c.in-Some.is c.in_ok-feed.ensures _ _ _
    c.from_residual-in_err-count.result c.from_residual-in_err-count.ensures.1 c.in_err-count.ensures.sent

pub returns-in_err-print_advised-clause-sent : goal.returns-in_err-print_advised-clause-sent
returns-in_err-print_advised-clause-sent g c =
    advice-ended c.args.words.now.summary c.args.day c.args.begun c.in-Some.draft c.in_ok-feed.feed c.in-Some.is c.in_ok-feed.ensures _ _ _ c.in_ok-count.count _ _
    c.in_ok-count.ensures.count c.in_ok-count.ensures.sent
    (lines-passed _ _ _ _ c.from_residual-in_err-print_advised.result c.from_residual-in_err-print_advised.ensures.1 c.in_err-print_advised.ensures)

pub returns-clause-sent : goal.returns-clause-sent
returns-clause-sent g c =
    advice-ended c.args.words.now.summary c.args.day c.args.begun c.in-Some.draft c.in_ok-feed.feed c.in-Some.is c.in_ok-feed.ensures _ _ _ c.in_ok-count.count _ _
    c.in_ok-count.ensures.count c.in_ok-count.ensures.sent (lines-whole _ _ _ _ _ c.in_ok-print_advised.ensures)

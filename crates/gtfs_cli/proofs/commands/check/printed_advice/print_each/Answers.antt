use Rattle.std.proofs.Common.{ℕ, List, [], None, map}
use Rattle.gtfs_advice.specs.Advice.{advice_of, About}
use Rattle.gtfs_advice.specs.declared.code.Code.{Code}
use Rattle.gtfs_cli.specs.AdviceLines.{advice_line}
use Rattle.gtfs_cli.proofs.MadeLines.{line-at, lines-end, lines-inside}
use Rattle.gtfs_cli.proofs.SentLines.{line-failed, line-more, lines-sent}
use Rattle.gtfs_cli.proofs.commands.check.printed_advice.print_each.Goals as goal

abbrev line : Code × About → List ℕ
line a = advice_line a None

pub loop-one-preserved : goal.loop-one-preserved
loop-one-preserved g c =
    let of = advice_of c.args.feed.now in
    let said = c.args.advice.now in
    let i = c.loop-one.one-index in
    line-more (map line (map of said)) i [] _ (line-at of said i c.one-item.result _ c.one-item.is c.loop-one-test.true line)
    (lines-inside of said i line c.loop-one-test.true) _ _ _ _ c.loop-one.invariant c.in_ok-print_line.ensures

pub returns-in_err-print_line : goal.returns-in_err-print_line
returns-in_err-print_line g c =
    let of = advice_of c.args.feed.now in
    let said = c.args.advice.now in
    let i = c.loop-one.one-index in
    line-failed (map line (map of said)) i [] _ (line-at of said i c.one-item.result _ c.one-item.is c.loop-one-test.true line)
    (lines-inside of said i line c.loop-one-test.true) _ _ _ _ c.from_residual.result c.from_residual.ensures.1 c.loop-one.invariant c.in_err-print_line.ensures

pub returns : goal.returns
returns g c =
    let of = advice_of c.args.feed.now in
    let said = c.args.advice.now in
    lines-sent (map line (map of said)) c.loop-one.one-index _ _ _ (lines-end of said c.loop-one.one-index line c.loop-one-test.false) c.loop-one.invariant

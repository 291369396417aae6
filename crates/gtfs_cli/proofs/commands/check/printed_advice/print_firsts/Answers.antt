use Rattle.std.proofs.Common.{◌∙◌, ap, [], length, map}
use Rattle.std.proofs.lemmas.List.{length-set}
use Rattle.gtfs_advice.specs.Advice.{advice_of}
use Rattle.gtfs_cli.specs.AdviceLines.{advice_line, has_one_code}
use Rattle.gtfs_cli.specs.FirstOfEachKind.{firsts}
use Rattle.gtfs_cli.proofs.AdviceTold.{first-line, told-more}
use Rattle.gtfs_cli.proofs.MadeLines.{firsts-end, firsts-inside}
use Rattle.gtfs_cli.proofs.SentLines.{line-failed, line-more, lines-sent}
use Rattle.gtfs_cli.proofs.commands.check.printed_advice.print_firsts.Goals as goal

pub loop-one-preserved : goal.loop-one-preserved
loop-one-preserved g c =
    let p = c.args.feed.now in
    let said = c.args.advice.now in
    let i = c.loop-one.one-index in
    let inside = c.loop-one-test.true in
    let before = c.loop-one.invariant in
    let rank = c.rank.result in
    let mark = c.count_if_first-count.ensures.told in
    record {
      count = ap length mark ∙ length-set _ _ _ ∙ before.count;
      told = told-more p said i c.one-item.result _ c.one-item.is inside c.loop-one.told c.count_if_first-count.new.told rank c.rank.ensures.rank c.rank.ensures.within before.count mark before.told;
      sent = line-more (firsts has_one_code advice_line (map (advice_of p) said)) i [] _
          (first-line p said i c.one-item.result _ c.one-item.is inside c.loop-one.told rank c.count_if_first-count.result c.rank.ensures.rank before.told c.count_if_first-count.ensures.count)
          (firsts-inside (advice_of p) said i has_one_code advice_line inside) _ _ _ _ before.sent c.in_ok-print_first.ensures;
    }

pub returns-in_err-print_first : goal.returns-in_err-print_first
returns-in_err-print_first g c =
    let p = c.args.feed.now in
    let said = c.args.advice.now in
    let i = c.loop-one.one-index in
    let inside = c.loop-one-test.true in
    line-failed (firsts has_one_code advice_line (map (advice_of p) said)) i [] _
    (first-line p said i c.one-item.result _ c.one-item.is inside c.loop-one.told c.rank.result c.count_if_first-count.result c.rank.ensures.rank c.loop-one.invariant.told c.count_if_first-count.ensures.count)
    (firsts-inside (advice_of p) said i has_one_code advice_line inside) _ _ _ _ c.from_residual.result c.from_residual.ensures.1 c.loop-one.invariant.sent c.in_err-print_first.ensures

pub returns : goal.returns
returns g c =
    let p = c.args.feed.now in
    let said = c.args.advice.now in
    lines-sent (firsts has_one_code advice_line (map (advice_of p) said)) c.loop-one.one-index _ _ _
    (firsts-end (advice_of p) said c.loop-one.one-index has_one_code advice_line c.loop-one-test.false) c.loop-one.invariant.sent

use Rattle.std.proofs.Common.{◌∙◌, ◌+◌, ap, sym, refl, arith, map}
use Rattle.std.specs.Prelude.{option_map}
use Rattle.gtfs_days.specs.Zone.{zone_origin}
use Rattle.gtfs_rows.specs.RowsInMemory.{content_of_parts}
use Rattle.gtfs_cli.specs.LentBoardRequests.{stop_request_of}
use Rattle.gtfs_cli.specs.BoardsCommand.{AreAllBoards, BeginsBoard, BeginsWhole, StopsInAll}
use Rattle.gtfs_cli.specs.SentText.{or_none}
use Rattle.gtfs_cli.proofs.Plans.{prints-later, prints-up, prints-whole}
use Rattle.gtfs_cli.proofs.RequestBoards.{at_line, none_printed, one-left, past_board, past_nothing, printed_all}
use Rattle.gtfs_cli.proofs.RequestLines.{asked_from}
use Rattle.gtfs_cli.proofs.commands.boards.print_requests.Goals as goal

pub loop-line-init : goal.loop-line-init
loop-line-init g c =
    let f = content_of_parts c.args.index.now.feed in
    record {
      printed = none_printed f c.args.zone.now c.args.times (map (λ x. x.now) c.args.lines.now) (g.O.Out.told c.args.out.now) c.requires.known;
      grows = omega arith;
      no_failure = refl;
    }

pub loop-line-preserved : goal.loop-line-preserved
loop-line-preserved g c =
    let f = content_of_parts c.args.index.now.feed in
    let z = c.args.zone.now in
    let times = c.args.times in
    let xs = c.args.lines.now in
    let texts = map (λ x. x.now) xs in
    let old = g.O.Out.told c.args.out.now in
    let i = c.loop-line.line-index in
    let asks = ap (option_map stop_request_of) (sym c.in-Some.is) ∙ c.read_request.ensures.request in
    let here = at_line f z times texts old xs i _ c.loop-line-test.true _ c.loop-line.invariant.printed in
    record {
      printed = past_board f z times texts old (i + 1) _ _ _ _ (stop_request_of c.in-Some.request) here asks c.in_ok-print_request.ensures.printed.0
          c.in_ok-print_request.ensures.printed.1 c.in_ok-print_request.ensures.printed.2;
      grows = omega (arith, c.loop-line.invariant.grows, c.in_ok-print_request.ensures.grows);
      no_failure = c.in_ok-print_request.ensures.no_failure ∙ c.loop-line.invariant.no_failure;
    }

pub loop-line-preserved-in_default : goal.loop-line-preserved-in_default
loop-line-preserved-in_default g c =
    let f = content_of_parts c.args.index.now.feed in
    let z = c.args.zone.now in
    let times = c.args.times in
    let xs = c.args.lines.now in
    let texts = map (λ x. x.now) xs in
    let old = g.O.Out.told c.args.out.now in
    let i = c.loop-line.line-index in
    let asks = ap (option_map stop_request_of) (sym c.in_default.is) ∙ c.read_request.ensures.request in
    let here = at_line f z times texts old xs i _ c.loop-line-test.true _ c.loop-line.invariant.printed in
    record {
      printed = past_nothing f z times texts old (i + 1) _ _ _ here asks;
      grows = c.loop-line.invariant.grows;
      no_failure = c.loop-line.invariant.no_failure;
    }

pub returns : goal.returns
returns g c =
    let f = content_of_parts c.args.index.now.feed in
    let xs = c.args.lines.now in
    let sent = printed_all f c.args.zone.now c.args.times (map (λ x. x.now) xs) (g.O.Out.told c.args.out.now) xs c.loop-line.line-index _ c.loop-line-test.false c.loop-line.invariant.printed in
    prints-whole _ _ _ _ _ _ _ sent c.loop-line.invariant.no_failure

pub returns-in_err-print_request : goal.returns-in_err-print_request
returns-in_err-print_request g c =
    let f = content_of_parts c.args.index.now.feed in
    let z = c.args.zone.now in
    let times = c.args.times in
    let xs = c.args.lines.now in
    let texts = map (λ x. x.now) xs in
    let old = g.O.Out.told c.args.out.now in
    let new = g.O.Out.told c.print_request.new.out in
    let i = c.loop-line.line-index in
    let r = c.in_err-print_request.field-0.0 in
    let asks = ap (option_map stop_request_of) (sym c.in-Some.is) ∙ c.read_request.ensures.request in
    let here = at_line f z times texts old xs i _ c.loop-line-test.true _ c.loop-line.invariant.printed in
    let asked = asked_from f (zone_origin z) times 1 texts in
    let p = c.in_err-print_request.ensures in
    prints-up (AreAllBoards f z asked) (StopsInAll BeginsBoard f z asked) (or_none (StopsInAll BeginsWhole f z asked)) (λ _. ⊥) _ _ c.from_residual.result r c.from_residual.ensures.1
    (prints-later _ _ _ _ _ _ _ _ _ r c.loop-line.invariant.no_failure p
    (one-left f z times texts old (i + 1) _ _ _ new (stop_request_of c.in-Some.request) here asks r _ _ p.refused p.left.0 p.left.1 p.left.2))

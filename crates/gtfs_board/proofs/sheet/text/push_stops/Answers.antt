use Rattle.std.proofs.Common.{string_bytes, append-nil, sym}
use Rattle.gtfs_board.proofs.SheetTexts.{lines-more, lines-all}
use Rattle.gtfs_board.proofs.sheet.text.push_stops.Goals as goal

pub loop-position-init : goal.loop-position-init
loop-position-init c = sym (append-nil (string_bytes c.args.text.now))

pub loop-position-preserved : goal.loop-position-preserved
loop-position-preserved c =
    lines-more (λ stop. stop.now) c.args.sheet.now.stops _ c.args.sheet.now.times _ c.loop-position.position _ _ c.index-times-position.result _
    (string_bytes c.args.text.now) _ _ c.loop-position-test.true c.min-position-end.ensures c.as_slice-stops.ensures c.as_slice-times.ensures
    c.index-times-position.is c.as_slice.ensures c.loop-position.invariant c.in_ok-push_stop.ensures

pub returns : goal.returns
returns c =
    lines-all (λ stop. stop.now) c.args.sheet.now.stops _ c.args.sheet.now.times _ c.loop-position.position _
    (string_bytes c.args.text.now) _ c.loop-position-test.false c.min-position-end.ensures c.as_slice-stops.ensures c.as_slice-times.ensures c.loop-position.invariant

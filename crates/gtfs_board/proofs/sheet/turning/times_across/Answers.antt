use Rattle.std.proofs.Common.{◌∙◌, get_or, None}
use Rattle.std.proofs.lemmas.List.{get_or_read}
use Rattle.gtfs_runs.proofs.Pushes.{mapped-all, pushed-more}
use Rattle.gtfs_board.proofs.TimedSheets.{line-within}
use Rattle.gtfs_board.proofs.sheet.turning.times_across.Goals as goal

pub loop-line-preserved : goal.loop-line-preserved
loop-line-preserved c =
    pushed-more (λ line. get_or line.items c.args.place None) c.args.lines.now c.loop-line.line-index c.line-item.result _ _ _
    c.loop-line-test.true c.line-item.is c.loop-line.invariant c.in_ok-push.ensures.items
    (get_or_read c.line-item.result.items c.args.place c.index.result.now
    (line-within (λ line. line.items) c.args.lines.now c.loop-line.line-index c.args.place c.line-item.result c.requires c.loop-line-test.true c.line-item.is) c.index.ensures None)

pub returns : goal.returns
returns c = c.new.ensures ∙ mapped-all (λ line. get_or line.items c.args.place None) c.args.lines.now c.loop-line.line-index _ c.loop-line-test.false c.loop-line.invariant

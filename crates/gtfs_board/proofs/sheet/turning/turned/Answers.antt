use Rattle.std.proofs.Common.{◌≡◌, ◌∙◌, None, map, get_or, ap, arith}
use Rattle.std.specs.List.{range_with_len}
use Rattle.gtfs_board.proofs.SheetLists.{ranged-pushed}
use Rattle.gtfs_board.proofs.sheet.turning.turned.Goals as goal

pub times_across-requires : goal.times_across-requires
times_across-requires c = λ k d within. omega (arith, c.requires k d within, c.loop-place-test.true)

pub loop-place-preserved : goal.loop-place-preserved
loop-place-preserved c =
    ranged-pushed (λ i. map (λ line. get_or line.items i None) c.args.lines.now) c.loop-place.place _ _ c.in_ok-times_across.field-0
    c.loop-place.invariant c.in_ok-push.ensures.items c.in_ok-times_across.ensures

pub returns : goal.returns
returns c =
    let all : c.loop-place.place ≡ c.args.width = omega (arith, c.loop-place-test.false, c.loop-place.auto.place-end) in
    c.loop-place.invariant ∙ ap (λ n. map (λ i. map (λ line. get_or line.items i None) c.args.lines.now) (range_with_len 0 n)) all

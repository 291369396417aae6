use Rattle.std.proofs.Common.{◌+◌, arith, refl, subst}
use Rattle.gtfs_nearby.specs.AreaTree.{IsBlock}
use Rattle.gtfs_nearby.proofs.Blocks.{block-joined, block-one, stops}
use Rattle.gtfs_nearby.proofs.block.Block.of.Goals as goal

pub loop-number-init : goal.loop-number-init
loop-number-init c = block-one c.args.listed.now c.args.stops.from (c.args.stops.from + 1) _ c.of_one-block.result (omega arith) refl c.of_one-block.ensures

pub loop-number-preserved : goal.loop-number-preserved
loop-number-preserved c =
    let xs = c.args.listed.now in
    let n = c.loop-number.number in
    block-joined xs c.args.stops.from n (n + 1) c.loop-number.block c.of_one.result c.joined-block.result c.joined-block.ensures c.loop-number.invariant
    (block-one xs n (n + 1) _ c.of_one.result (omega arith) refl c.of_one.ensures)

pub returns : goal.returns
returns c = subst (λ u. IsBlock c.args.listed.now (stops c.args.stops.from u) c.loop-number.block) (omega arith) c.loop-number.invariant

use Rattle.std.proofs.Common.{◌<◌, ◌≤◌, arith, length}
use Rattle.gtfs_rows.specs.RowsInMemory.{stop_ids}
use Rattle.gtfs_merge.proofs.NearPairs.{all-pairs, pairs-more}
use Rattle.gtfs_merge.proofs.names.near_pairs.near_pairs.Goals as goal

pub loop-number-preserved : goal.loop-number-preserved
loop-number-preserved c =
    let within : c.loop-number.number < length (stop_ids c.args.sides.now.b.now) = omega (arith, c.count_of-number-end.ensures) in
    pairs-more c.args.sides.now c.soundness.ensures.a c.soundness.ensures.b c.soundness.ensures.few c.loop-number.number within _ _ c.loop-number.invariant c.in_ok-push_if_near.ensures

pub returns : goal.returns
returns c =
    let past : length (stop_ids c.args.sides.now.b.now) ≤ c.loop-number.number = omega (arith, c.count_of-number-end.ensures) in
    all-pairs c.args.sides.now c.soundness.ensures.a c.soundness.ensures.b c.soundness.ensures.few c.loop-number.number past _ c.loop-number.invariant

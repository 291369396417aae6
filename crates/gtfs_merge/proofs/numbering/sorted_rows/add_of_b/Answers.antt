use Rattle.std.proofs.Common.{map}
use Rattle.gtfs_merge.specs.MergeEntries.{entry_of, entry_value, is_apart}
use Rattle.gtfs_merge.specs.declared.kind.Side.TheVariants as side
use Rattle.gtfs_merge.proofs.Ordering.{passing-more}
use Rattle.gtfs_merge.proofs.numbering.sorted_rows.add_of_b.Goals as goal

pub loop-number-preserved : goal.loop-number-preserved
loop-number-preserved c =
    passing-more (is_apart c.args.kind c.args.sides.now) (entry_of side.B c.args.kind c.args.sides.now) c.loop-number.number (map entry_value c.args.rows.now.items) _ _
    c.loop-number.invariant c.in_ok-add_if_apart.ensures

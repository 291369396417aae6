use Rattle.std.proofs.Common.{refl}
use Rattle.gtfs_table.specs.OffsetBlocks.{offsets_from}
use Rattle.gtfs_table.proofs.blocks.Blocks.new.Goals as goal

pub returns : goal.returns
unfolding offsets_from
returns c = rw (c.new-2.ensures.items) refl

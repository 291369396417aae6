use Rattle.std.proofs.Common.{◌++◌, ◌∷◌, []}
use Rattle.gtfs_table.proofs.BlockFacts.{AreInBlocks, block-begun}
use Rattle.gtfs_table.proofs.blocks.Blocks.begin_block.Goals as goal

begun : (c : goal.After-push_reserved) → AreInBlocks c.push_reserved.new.self.items c.push.new.self.items (c.args.self.now ++ c.in-Ok.base ∷ [])
begun c =
    block-begun c.self.inside.bases.items c.self.inside.distances.items c.args.self.now c.push_reserved.new.self.items c.push.new.self.items c.in-Ok.base c.self.view_is
    c.self.invariant.enough c.self.invariant.begun c.requires (rw (c.reserve.ensures.items) at c.push_reserved.ensures.items) c.in_ok-push-in-Ok.ensures.items

pub invariant_of-self-in-Ok : goal.invariant_of-self-in-Ok
invariant_of-self-in-Ok c = record { enough = (begun c).enough; begun = (begun c).begun }

pub returns-in_ok-push-in-Ok-clause-ok : goal.returns-in_ok-push-in-Ok-clause-ok
returns-in_ok-push-in-Ok-clause-ok c = rw (← c.in-Ok.ensures.1) (begun c).value

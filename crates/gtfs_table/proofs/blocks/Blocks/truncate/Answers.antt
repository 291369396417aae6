use Rattle.std.proofs.Common.{◌≤◌, ◌*◌, length, arith}
use Rattle.std.proofs.lemmas.Grind.{div_ceil_times}
use Rattle.gtfs_table.proofs.BlockFacts.{offsets-first}
use Rattle.gtfs_table.proofs.blocks.Blocks.truncate.Goals as goal

pub returns : goal.returns
returns c =
    let enough : length c.truncate.new.self.items ≤ 256 * c.div_ceil.result = omega (arith, div_ceil_times (length c.truncate.new.self.items) 256 (omega arith), c.div_ceil.ensures) in
    offsets-first c.self.inside.bases.items c.self.inside.distances.items c.args.self.now c.truncate-2.new.self.items c.truncate.new.self.items c.div_ceil.result c.args.count c.self.view_is
    enough c.truncate-2.ensures.items c.truncate.ensures.items

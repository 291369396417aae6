use Rattle.std.proofs.Common.{◌∙◌, sym}
use Rattle.gtfs_table.proofs.PartFacts.{count-parts}
use Rattle.gtfs_table.proofs.texts.Texts.len.Goals as goal

pub returns : goal.returns
returns c = c.len.ensures.count ∙ sym (count-parts c.self.inside.starts c.self.inside.bytes.items c.args.self.now c.self.view_is)

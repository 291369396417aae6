use Rattle.std.proofs.Common.{◌∙◌, sym}
use Rattle.gtfs_table.proofs.PartFacts.{count-parts}
use Rattle.gtfs_table.proofs.long_records.LongRecords.len.Goals as goal

pub returns-clause-count : goal.returns-clause-count
returns-clause-count c = c.len.ensures.count ∙ sym (count-parts c.self.inside.starts c.self.inside.fields c.args.self.now c.self.view_is)

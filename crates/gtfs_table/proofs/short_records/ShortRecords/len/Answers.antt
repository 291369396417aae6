use Rattle.std.proofs.Common.{◌∙◌, sym}
use Rattle.gtfs_table.proofs.ShortFacts.{short-count}
use Rattle.gtfs_table.proofs.short_records.ShortRecords.len.Goals as goal

pub returns-clause-count : goal.returns-clause-count
returns-clause-count c = c.len.ensures.count ∙ sym (short-count c.self.inside.runs c.args.self.now c.self.view_is)

use Rattle.gtfs_table.proofs.ShortFacts.{short-filled, short-texts}
use Rattle.gtfs_table.proofs.short_records.ShortRecords.are_filled_with_text.Goals as goal

pub returns-clause-filled : goal.returns-clause-filled
returns-clause-filled c = short-filled c.self.inside.runs c.args.self.now c.self.view_is c.self.invariant

pub returns-clause-text : goal.returns-clause-text
returns-clause-text c = short-texts c.self.inside.runs c.args.self.now c.self.view_is c.self.invariant

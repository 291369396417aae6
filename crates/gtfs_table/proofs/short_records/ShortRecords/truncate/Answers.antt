use Rattle.std.proofs.Common.{take}
use Rattle.gtfs_table.proofs.ShortFacts.{AreShort, short-take}
use Rattle.gtfs_table.proofs.short_records.ShortRecords.truncate.Goals as goal

first : (c : goal.After-truncate) → AreShort c.truncate.new.self (take c.args.count c.args.self.now)
first c = short-take c.self.inside.runs c.truncate.new.self c.args.self.now c.args.count c.self.view_is c.self.invariant c.truncate.ensures

pub invariant_of-self : goal.invariant_of-self
invariant_of-self c = (first c).each

pub returns : goal.returns
returns c = (first c).value

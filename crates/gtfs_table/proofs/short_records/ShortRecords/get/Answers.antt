use Rattle.std.proofs.Common.{arith}
use Rattle.gtfs_table.proofs.ShortFacts.{short-at, short-count, short-run}
use Rattle.gtfs_table.proofs.short_records.ShortRecords.get.Goals as goal

pub get-requires : goal.get-requires
get-requires c = omega (arith, c.requires, short-count c.self.inside.runs c.args.self.now c.self.view_is)

pub returns-clause-run : goal.returns-clause-run
returns-clause-run c = rw (c.get.ensures) (short-run c.self.inside.runs c.args.self.now c.args.i c.self.view_is c.self.invariant c.requires)

pub returns-clause-fields : goal.returns-clause-fields
returns-clause-fields c = rw (c.get.ensures) (short-at c.self.inside.runs c.args.self.now c.args.i c.self.view_is c.requires)

use Rattle.gtfs_table.proofs.ShortFacts.{short-push}
use Rattle.gtfs_table.proofs.short_records.ShortRecords.push.Goals as goal

pub invariant_of-self-2 : goal.invariant_of-self-2
invariant_of-self-2 c =
    (short-push c.self.inside.runs c.push.new.self c.args.self.now c.args.row.now c.self.view_is c.self.invariant c.requires.whole c.requires.filled c.requires.text c.in_ok-push.ensures.ok).each

pub returns-clause-ok : goal.returns-clause-ok
returns-clause-ok c =
    (short-push c.self.inside.runs c.push.new.self c.args.self.now c.args.row.now c.self.view_is c.self.invariant c.requires.whole c.requires.filled c.requires.text c.in_ok-push.ensures.ok).value

use Rattle.gtfs_table.proofs.ValueFacts.{first-value}
use Rattle.gtfs_table.proofs.record.Record.begins_visible.Goals as goal

pub returns : goal.returns
returns c visible = first-value c.args.self.now (rw (c.raw.ensures) at c.begins_visible.ensures visible)

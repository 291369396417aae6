use Rattle.std.proofs.Common.{◌-◌, arith}
use Rattle.gtfs_table.proofs.MarkedFacts.{count-record}
use Rattle.gtfs_table.proofs.record.Record.len.Goals as goal

pub returns : goal.returns
returns c =
    let r = c.self.inside in
    let count = count-record r.marks.now r.bytes.now r.fields.now c.args.self.now r.start (r.end - r.start) c.self.view_is (omega (arith, c.self.invariant.rising, c.self.invariant.within)) in
    omega (arith, count, c.saturating_sub.ensures)

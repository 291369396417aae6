use Rattle.std.proofs.Common.{◌≡◌, ◌<◌, ◌-◌, length}
use Rattle.gtfs_table.specs.Rows.{rows_past}
use Rattle.gtfs_table.proofs.rows.RowsIterator.next.Given as goal

-- the records so far are blank
abbrev pub invariant-loop-self : goal.invariant-loop-self
invariant-loop-self l = record {
  left : rows_past l.self-inside.records.now l.self-inside.passed ≡ l.fn.self;
  passed : 0 < l.self-inside.passed;
  counted : l.self-inside.count ≡ length l.self-inside.records.now;
  small : l.self-inside.count < 18446744073709551616;
}

abbrev pub decreases-loop-self : goal.decreases-loop-self
decreases-loop-self l = l.self-inside.count - l.self-inside.passed

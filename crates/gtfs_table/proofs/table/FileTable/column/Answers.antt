use Rattle.std.proofs.Common.{◌≡◌, ◌∙◌, ◌==◌, sym, length, true, false}
use Rattle.std.specs.Prelude.{bytes_eq}
use Rattle.gtfs_table.specs.Tables.{record_at, field_cut, table_records}
use Rattle.gtfs_table.proofs.ValueFacts.{column-at}
use Rattle.gtfs_table.proofs.table.FileTable.column.Goals as goal

pub returns-then-eq : goal.returns-then-eq
returns-then-eq c =
    let some : (length c.args.name.now == 0) ≡ false = sym c.is_empty.ensures ∙ c.if-is_empty.false in
    let within = rw (c.len-n-end.ensures, c.record-header.ensures) at c.loop-n-test.true in
    let here : bytes_eq (field_cut (record_at (table_records c.args.self.now) 1) c.loop-n.n) c.args.name.now ≡ true =
    rw (← c.record-header.ensures, ← c.field.ensures) (sym c.eq.ensures ∙ c.if-eq.true) in
    column-at (table_records c.args.self.now) c.args.name.now c.loop-n.n some c.loop-n.invariant within here

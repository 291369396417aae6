use Rattle.std.proofs.Common.{◌∙◌, sym}
use Rattle.gtfs_table.specs.Rows.{records_in}
use Rattle.gtfs_row_rules.proofs.LocatedFacts.{located_absent, located_next}
use Rattle.gtfs_row_rules.proofs.fields.located_columns.Goals.{in-Some+in_ok-push, in_default}
use Rattle.gtfs_row_rules.proofs.fields.located_columns.Goals as goal

pub loop-column-preserved : goal.loop-column-preserved
loop-column-preserved c =
    let rs = records_in c.args.tables.now c.args.file in
    elim c.match-column.branch [
      | in-Some+in_ok-push w ↦ rw (w.located-is, w.in_ok-push.ensures.items) (located_next rs c.args.columns.now c.loop-column.column-index _ c.loop-column.located.items
          c.loop-column-test.true c.loop-column.invariant w.in-Some.index (sym c.column.ensures ∙ w.in-Some.is))
      | in_default w ↦ rw w.located-is (located_absent rs c.args.columns.now c.loop-column.column-index _ c.loop-column.located.items
          c.loop-column-test.true c.loop-column.invariant (sym c.column.ensures ∙ w.in_default.is))
    ]

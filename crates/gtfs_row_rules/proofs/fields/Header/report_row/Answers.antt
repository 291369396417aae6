use Rattle.std.proofs.Common.{[], length}
use Rattle.gtfs_row_rules.specs.HeaderColumns.{is_found_in}
use Rattle.gtfs_schema.specs.steps.FieldCodes.{is_found_at, is_in_row, length_code}
use Rattle.gtfs_row_rules.proofs.LocatedFacts.{reported_more, reported_start}
use Rattle.gtfs_row_rules.proofs.fields.Header.report_row.Goals as goal

pub loop-located-init : goal.loop-located-init
loop-located-init c =
    let header = c.args.self.now in
    let fields = c.args.«record».now in
    let of_length = is_found_at (length_code header.width (length fields)) [] in
    reported_start (is_in_row header.file c.args.row) of_length (is_found_in fields) c.deref-located-items.result.now _ _
    (rw (← c.len.ensures, ← c.length_code.ensures) c.in_ok-report.ensures)

pub loop-located-preserved : goal.loop-located-preserved
loop-located-preserved c =
    let header = c.args.self.now in
    let fields = c.args.«record».now in
    let of_length = is_found_at (length_code header.width (length fields)) [] in
    reported_more (is_in_row header.file c.args.row) of_length (is_found_in fields) c.deref-located-items.result.now c.loop-located.located-index _ _ _ _
    c.loop-located-test.true c.loop-located.invariant (rw (c.cell_code-code.ensures, c.field-text.ensures) at c.in_ok-report-2.ensures)

use Rattle.std.proofs.Common.{[], ap}
use Rattle.std.specs.Prelude.{◌&&◌}
use Rattle.std.proofs.lemmas.Result.{on_ok_weaker}
use Rattle.gtfs_table.specs.declared.file.File.TheVariants as file
use Rattle.gtfs_schema.specs.steps.FieldCodes.{is_found_at, is_in_row, length_code}
use Rattle.gtfs_trip_rules.specs.StopTimes.{cells_of, fields_report}
use Rattle.gtfs_schema.proofs.AddFacts.{adds_alike}
use Rattle.gtfs_trip_rules.proofs.StopTimeFields.{adds_then, all_cells, reported_cells}
use Rattle.gtfs_trip_rules.proofs.stop_times.fields.report_fields.Goals as goal

pub returns : goal.returns
returns c =
    let columns = c.args.columns.now in
    let s = c.args.stop_time.now in
    let row = is_in_row file.StopTimes s.row in
    let length = is_found_at (length_code columns.width s.fields) [] in
    on_ok_weaker c.report-10.result (λ last.
    adds_alike (λ p. row p && reported_cells length (cells_of columns s) p) (λ p. row p && fields_report columns s p) _ _
    (λ p. ap (λ b. row p && b) (all_cells length (cells_of columns s) p))
    (adds_then row _ _ _ _ _ (adds_then row _ _ _ _ _ (adds_then row _ _ _ _ _ (adds_then row _ _ _ _ _ (adds_then row _ _ _ _ _
    (adds_then row _ _ _ _ _ (adds_then row _ _ _ _ _ (adds_then row _ _ _ _ _ (adds_then row _ _ _ _ _
    (rw c.length_code-length.ensures at c.in_ok-report.ensures)
    (rw (c.code-trip_id.ensures, c.is_some.ensures) at c.in_ok-report-2.ensures))
    (rw c.code.ensures at c.in_ok-report-3.ensures))
    (rw c.code-2.ensures at c.in_ok-report-4.ensures))
    (rw (c.code-stop_id.ensures, c.is_some-2.ensures) at c.in_ok-report-5.ensures))
    (rw (c.code-sequence.ensures, c.is_some-3.ensures) at c.in_ok-report-6.ensures))
    c.in_ok-report-7.ensures)
    (rw c.code-3.ensures at c.in_ok-report-8.ensures))
    (rw c.code-4.ensures at c.in_ok-report-9.ensures))
    (rw c.code-5.ensures at last))) c.report-10.ensures

use Rattle.std.specs.Prelude.{◌||◌}
use Rattle.std.proofs.lemmas.Result.{on_ok_weaker}
use Rattle.gtfs_table.specs.declared.file.File.TheVariants as file
use Rattle.gtfs_schema.specs.steps.FieldCodes.{field_codes, in_file_of}
use Rattle.gtfs_trip_rules.specs.StopTimePicks.{in_names, in_times}
use Rattle.gtfs_trip_rules.proofs.StopTimeFacts.{rows_then}
use Rattle.gtfs_trip_rules.proofs.StopTimeFields.{fields_reported}
use Rattle.gtfs_trip_rules.proofs.stop_times.report_row.Goals as goal

pub returns : goal.returns
returns c =
    let s = c.args.stop_time.now in
    on_ok_weaker c.report_times.result (λ last. λ d columns named is.
    rows_then d s.row (λ p. in_file_of field_codes file.StopTimes p || in_names p) in_times _ _ _
    (rows_then d s.row (in_file_of field_codes file.StopTimes) in_names _ _ _
    (fields_reported d c.args.columns.now columns s is _ _ c.in_ok-report_fields.ensures)
    (c.in_ok-report.ensures d named is))
    (last d is)) c.report_times.ensures

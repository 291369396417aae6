use Rattle.std.proofs.lemmas.Result.{on_ok_weaker}
use Rattle.gtfs_table.specs.declared.file.File.TheVariants as file
use Rattle.gtfs_schema.proofs.AddFacts.{adds_found}
use Rattle.gtfs_trip_rules.proofs.stop_times.fields.report.Goals as goal

pub returns : goal.returns
returns c = on_ok_weaker c.report_if.result
    (λ reported. rw c.in-Some.is (adds_found c.in-Some.code file.StopTimes c.args.row c.args.column.now _ _ (rw c.problem.ensures at reported))) c.report_if.ensures

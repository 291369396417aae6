use Rattle.std.proofs.lemmas.Result.{on_ok_weaker}
use Rattle.gtfs_schema.proofs.AddFacts.{adds_found}
use Rattle.gtfs_row_rules.proofs.fields.Header.report.Goals as goal

pub returns : goal.returns
returns c = on_ok_weaker c.report_if.result
    (λ reported. rw c.in-Some.is (adds_found c.in-Some.code c.args.self.now.file c.args.row c.args.column.now _ _ reported)) c.report_if.ensures

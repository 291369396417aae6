use Rattle.std.proofs.lemmas.Result.{on_ok_weaker}
use Rattle.gtfs_row_rules.proofs.HeaderFacts.{header_reported}
use Rattle.gtfs_row_rules.proofs.headers.report_names.Goals as goal

pub returns : goal.returns
returns c = on_ok_weaker c.report_other_columns.result
    (λ names. header_reported c.args.tables.now c.args.file c.args.found.now c.report_kept_columns.new.found c.report_other_columns.new.found c.in_ok-report_kept_columns.ensures names)
    c.report_other_columns.ensures

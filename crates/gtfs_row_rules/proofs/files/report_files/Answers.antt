use Rattle.std.proofs.lemmas.Result.{on_ok_weaker}
use Rattle.gtfs_row_rules.proofs.FileFacts.{all_files_reported}
use Rattle.gtfs_row_rules.proofs.files.report_files.Goals as goal

pub returns : goal.returns
returns c = on_ok_weaker c.report_other_files.result
    (λ others. all_files_reported c.args.tables.now c.args.found.now c.report_kept_files.new.found c.report_other_files.new.found c.in_ok-report_kept_files.ensures others)
    c.report_other_files.ensures

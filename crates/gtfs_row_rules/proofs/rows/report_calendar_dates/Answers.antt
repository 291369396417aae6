use Rattle.std.proofs.Common.{refl}
use Rattle.std.proofs.lemmas.Result.{on_ok_weaker}
use Rattle.gtfs_table.specs.declared.file.File.TheVariants as file
use Rattle.gtfs_row_rules.proofs.RowSites.{rows_reported}
use Rattle.gtfs_row_rules.proofs.rows.report_calendar_dates.Goals as goal

pub judge_rows-requires : goal.judge_rows-requires
judge_rows-requires c = (c.in_ok-header.ensures, (c.repeated_numbered-key.ensures.rule, tt))

pub returns : goal.returns
returns c = on_ok_weaker c.judge_rows.result (rows_reported c.args.tables.now file.CalendarDates refl _ _) (rw c.repeated_numbered-key.ensures.column at c.judge_rows.ensures)

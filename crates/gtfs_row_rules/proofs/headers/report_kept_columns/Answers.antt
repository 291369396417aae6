use Rattle.std.proofs.Common.{arith}
use Rattle.gtfs_schema.specs.steps.ColumnView.{column_of}
use Rattle.gtfs_schema.proofs.EachFacts.{each_done, each_more}
use Rattle.gtfs_row_rules.proofs.HeaderFacts.{columns_reported, kept_at, of_column}
use Rattle.gtfs_row_rules.proofs.headers.report_kept_columns.Goals as goal

pub report_kept_column-requires : goal.report_kept_column-requires
report_kept_column-requires c = kept_at c.args.file c.args.columns.now c.requires c.loop-column.column-index _ (omega arith)

pub loop-column-preserved : goal.loop-column-preserved
loop-column-preserved c = each_more c.args.tables.now (λ k. of_column c.args.file (column_of k)) c.args.columns.now c.loop-column.column-index _
    c.args.found.now c.loop-column.found c.report_kept_column.new.found (omega arith) c.loop-column.invariant c.in_ok-report_kept_column.ensures

pub returns : goal.returns
returns c = columns_reported c.args.tables.now c.args.file c.args.columns.now c.args.found.now c.loop-column.found c.requires
    (each_done c.args.tables.now (λ k. of_column c.args.file (column_of k)) c.args.columns.now c.loop-column.column-index c.args.found.now c.loop-column.found (omega arith) c.loop-column.invariant)

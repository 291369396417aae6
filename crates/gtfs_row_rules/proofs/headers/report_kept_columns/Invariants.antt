use Rattle.std.proofs.Common.{take}
use Rattle.gtfs_schema.specs.steps.ColumnView.{column_of}
use Rattle.gtfs_schema.specs.steps.FoundProblems.{Reports}
use Rattle.gtfs_schema.proofs.EachFacts.{of_any}
use Rattle.gtfs_row_rules.proofs.HeaderFacts.{of_column}
use Rattle.gtfs_row_rules.proofs.headers.report_kept_columns.Given as goal

-- the columns so far
abbrev pub invariant-loop-column : goal.invariant-loop-column
invariant-loop-column l = Reports l.tables (of_any (λ c. of_column l.file (column_of c)) (take l.column-index l.columns)) l.fn.found l.found

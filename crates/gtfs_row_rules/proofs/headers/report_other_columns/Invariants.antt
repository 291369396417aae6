use Rattle.std.proofs.Common.{take}
use Rattle.gtfs_schema.specs.declared.code.Code.TheVariants as code
use Rattle.gtfs_schema.specs.steps.FoundProblems.{Reports}
use Rattle.gtfs_schema.specs.steps.KeptColumns.{at_column}
use Rattle.gtfs_schema.specs.RowConditions.{header}
use Rattle.gtfs_table.specs.Rows.{records_in}
use Rattle.gtfs_schema.proofs.EachFacts.{of_any}
use Rattle.gtfs_row_rules.proofs.headers.report_other_columns.Given as goal

-- the names so far
abbrev pub invariant-loop-n : goal.invariant-loop-n
invariant-loop-n l = Reports l.tables (of_any (at_column code.W04 l.file) (take l.n (header (records_in l.tables l.file)))) l.fn.found l.found

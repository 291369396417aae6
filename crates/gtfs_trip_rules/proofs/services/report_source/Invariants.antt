use Rattle.std.specs.Prelude.{codes}
use Rattle.gtfs_table.specs.Rows.{numbers}
use Rattle.gtfs_schema.specs.declared.code.Code.TheVariants as code
use Rattle.gtfs_schema.specs.steps.FoundProblems.{Reports}
use Rattle.gtfs_schema.specs.steps.KeptColumns.{at_column}
use Rattle.gtfs_trip_rules.specs.ServiceCalendars.{file_of}
use Rattle.gtfs_schema.proofs.RowFacts.{at_rows}
use Rattle.gtfs_trip_rules.proofs.services.report_source.Given as goal

-- the rows so far
abbrev pub invariant-loop-row : goal.invariant-loop-row
invariant-loop-row l = Reports l.tables (at_rows (at_column code.W07 (file_of l.source) (codes "service_id")) (numbers l.yielded)) l.fn.found l.found

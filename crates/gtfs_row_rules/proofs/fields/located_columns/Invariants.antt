use Rattle.std.proofs.Common.{◌≡◌, map}
use Rattle.gtfs_row_rules.specs.HeaderColumns.{located_of}
use Rattle.gtfs_table.specs.Rows.{records_in}
use Rattle.gtfs_row_rules.proofs.LocatedFacts.{located_so_far}
use Rattle.gtfs_row_rules.proofs.fields.located_columns.Given as goal

-- the columns so far
abbrev pub invariant-loop-column : goal.invariant-loop-column
invariant-loop-column l = map located_of l.located.items ≡ located_so_far (records_in l.tables l.file) l.columns l.column-index

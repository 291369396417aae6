-- The indices of the kept columns of a file in its header, in the order of the columns.
use Rattle.std.specs.Prelude.{ℕ, List, Option, map}
use Rattle.gtfs_table.specs.Rows.{records_in}
use Rattle.gtfs_table.specs.Tables.{Dataset, column_of}
use Rattle.gtfs_table.specs.declared.file.File.{File}
use Rattle.gtfs_schema.specs.Columns.{columns_of}

abbrev pub column_indices : Dataset → File → List (Option ℕ)
column_indices d x = map (λ c. column_of (records_in d x) c.name) (columns_of x)

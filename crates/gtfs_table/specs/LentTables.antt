-- The table of a file, lent to be changed.
use Rattle.std.specs.Borrow.{Lends, MutBor, Fml}
use Rattle.gtfs_table.specs.Tables.{Dataset, Table, with_table}
use Rattle.gtfs_table.specs.declared.file.File.{File}
use Rattle.gtfs_table.specs.contracts.tables.Tables.{the_row}
use Rattle.gtfs_table.specs.contracts.table.FileTable.{the_row as file_table}

-- the tables end with the last value behind the reference in the place of this file's
abbrev pub LendsTable : MutBor Dataset → File → MutBor Table → Fml
LendsTable tables file table = Lends the_row file_table tables table (with_table tables.now file)

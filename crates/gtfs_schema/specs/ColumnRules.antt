-- Problems of headers: E03, E04 and W04.
-- GTFS Schedule Reference, "File Requirements" (the first line names the fields) and "Presence".
use Rattle.std.specs.Prelude.{◌==◌, ◌&&◌, not, Bool, true, false, nat_lt}
use Rattle.gtfs_schema.specs.Columns.{Empty, refused, nothing, means, Column, column_named}
use Rattle.gtfs_table.specs.Rows.{is_empty, has_no_record}
use Rattle.gtfs_schema.specs.FieldValues.{if_there}
use Rattle.gtfs_schema.specs.RowConditions.{times_named, is_named, is_kept_column, Condition}

-- the header has to name the column, and each row has to have a value in it
abbrev pub is_required : Column → Bool
is_required c = refuses c.empty
  where
    refuses : Empty → Bool
    refuses refused = true
    refuses nothing = false
    refuses (means t) = false

-- E03 column missing: the header lacks a required column
abbrev pub column_missing : Condition
column_missing d x n name = (n == 1) && not (has_no_record d x) && if_there (column_named x name) is_required && not (is_named d x name)

-- E04 column twice: a kept column
abbrev pub column_twice : Condition
column_twice d x n name = (n == 1) && is_kept_column x name && nat_lt 1 (times_named d x name)

-- W04 column not kept: any other name
abbrev pub column_not_kept : Condition
column_not_kept d x n name = (n == 1) && not (is_empty name) && is_named d x name && not (is_kept_column x name)

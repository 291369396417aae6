-- Problems of whole files: E01, E02, E05 and W03.
-- GTFS Schedule Reference, "Dataset Files" (which files are required) and "File Requirements" (UTF-8).
-- Row 0 is the file as a whole, row 1 its header, and no column is the empty text.
use Rattle.std.specs.Prelude.{ℕ, ◌==◌, ◌&&◌, ◌||◌, not, Bool, true, false, List, length, bytes_eq}
use Rattle.std.specs.List.{list_any}
use Rattle.gtfs_table.specs.Tables.{Dataset, table_of, table_state}
use Rattle.gtfs_table.specs.declared.file.File.{File}
use Rattle.gtfs_table.specs.declared.file.File.TheVariants as file
use Rattle.gtfs_table.specs.declared.state.State.{State}
use Rattle.gtfs_table.specs.declared.state.State.TheVariants as state
use Rattle.gtfs_table.specs.Rows.{is_empty, has_no_record, rows}
use Rattle.gtfs_schema.specs.RowConditions.{is_file, Condition}

abbrev pub is_absent_state : State → Bool
is_absent_state state.Absent = true
is_absent_state state.NotUtf8 = false
is_absent_state state.Read = false

abbrev pub is_not_utf8_state : State → Bool
is_not_utf8_state state.Absent = false
is_not_utf8_state state.NotUtf8 = true
is_not_utf8_state state.Read = false

abbrev pub is_read_state : State → Bool
is_read_state state.Absent = false
is_read_state state.NotUtf8 = false
is_read_state state.Read = true

abbrev pub is_read : Dataset → File → Bool
is_read d x = is_read_state (table_state (table_of d x))

-- the five files that a dataset has to have
abbrev pub is_needed : File → Bool
is_needed file.Agency = true
is_needed file.Stops = true
is_needed file.Routes = true
is_needed file.Trips = true
is_needed file.StopTimes = true
is_needed file.Calendar = false
is_needed file.CalendarDates = false
is_needed file.Frequencies = false
is_needed file.Transfers = false

-- one of the other four counts as absent, too, where it is there and has no record
abbrev pub is_absent : Dataset → File → Bool
is_absent d x = is_absent_state (table_state (table_of d x)) || (not (is_needed x) && is_read d x && has_no_record d x)

-- the problem stands at this row and at no column
abbrev pub is_at : ℕ → ℕ → List ℕ → Bool
is_at site n name = (n == site) && is_empty name

-- E01 file missing; calendar.txt only where calendar_dates.txt is missing too
abbrev pub file_missing : Condition
file_missing d x n name = is_at 0 n name
    && ((is_needed x && is_absent d x) || (is_file x file.Calendar && is_absent d file.Calendar && is_absent d file.CalendarDates))

-- E02 not UTF-8
abbrev pub not_utf8 : Condition
not_utf8 d x n name = is_at 0 n name && is_not_utf8_state (table_state (table_of d x))

-- E05 file empty: one of the five has no record, or agency.txt has a header and no row
abbrev pub file_empty : Condition
file_empty d x n name = is_needed x && is_read d x
    && ((is_at 0 n name && has_no_record d x)
    || (is_at 1 n name && is_file x file.Agency && not (has_no_record d x) && (length (rows d x) == 0)))

-- W03 file not kept, of a name other than the nine
abbrev pub file_not_kept : Dataset → List ℕ → ℕ → List ℕ → Bool
file_not_kept d other n name = is_at 0 n name && list_any (bytes_eq other) d.others

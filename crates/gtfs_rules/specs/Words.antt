-- The words of this crate's clauses, in the order in which a reader meets them: of each what it means, and where it is
-- defined. A reader starts here, and reads on in the file of a word.

-- ---- `check`: the report of a dataset

-- the tables of the nine kept files of a folder, and its other names
pub use Rattle.gtfs_table.specs.Tables.{Dataset}
-- the strictly ascending list whose members are exactly the problems of a dataset
pub use Rattle.gtfs_schema.specs.Problems.{IsReport}
-- a dataset has no other report
pub use Rattle.gtfs_schema.specs.Problems.{IsOnlyReport}
-- the file, row, code and column of what is wrong; row 0 is the file as a whole, and row 1 its header
pub use Rattle.gtfs_schema.specs.Problems.{Problem}
-- one of the nine kept files, or another name in the folder
pub use Rattle.gtfs_schema.specs.Problems.{FileName}
-- the problem that a `Problem` of the code stands for
pub use Rattle.gtfs_schema.specs.ProblemTexts.{problem_of}
-- the condition of the problem's code holds in the dataset, at the problem's file, row and column
pub use Rattle.gtfs_schema.specs.Problems.{is_problem}
-- the order of problems: by file, then by row, code and column
pub use Rattle.gtfs_schema.specs.Problems.{problem_cmp}
-- ---- `Report::passed`, and what `Passed` gives

-- none of a dataset's problems is an error
pub use Rattle.gtfs_schema.specs.Problems.{Passes}
-- the same, read off a report
pub use Rattle.gtfs_schema.specs.Problems.{passes}
-- a code is that of an error, and not of a warning
pub use Rattle.gtfs_schema.specs.Codes.{is_error}
-- one stop time for each row of stop_times.txt, strictly ascending by trip and sequence
pub use Rattle.gtfs_rules.specs.StopTimes.{AreStopTimes}
-- a stop time has the values of its row, with numbers in place of ids
pub use Rattle.gtfs_rules.specs.StopTimes.{SaysStopTime}
-- the order of stop times: by trip, and in a trip by sequence
pub use Rattle.gtfs_rules.specs.StopTimes.{stop_time_cmp}
-- the ids of a column, each once, ascending by their bytes
pub use Rattle.gtfs_schema.specs.IdNumbers.{ids_by_bytes}
-- the id that has a number, which is its place among them, from 0
pub use Rattle.gtfs_schema.specs.IdNumbers.{id_numbered}
-- the number of an id, none where no row has it
pub use Rattle.gtfs_schema.specs.IdNumbers.{number_of_id}
-- the ids of each column that other files name, each with its first row
pub use Rattle.gtfs_schema.specs.steps.FeedIds.{AreIdsOf}
-- ---- what the two types are seen as, and what they hold

-- a dataset, and the problems that were found in it
pub use Rattle.gtfs_schema.specs.steps.FoundProblems.{Checked}
-- the problems are the dataset's report, and the ids and the stop times are those of its rows
pub use Rattle.gtfs_rules.specs.steps.CheckedTables.{IsChecked}
-- the dataset passes, and the ids and the stop times are its own
pub use Rattle.gtfs_rules.specs.steps.CheckedTables.{HasPassed}
-- ---- the printed report

-- a line for each problem, and the counts
pub use Rattle.gtfs_rules.specs.Report.{report_text}
-- the code, the file and row, the column, and what the code says
pub use Rattle.gtfs_rules.specs.Report.{problem_line}
-- how many problems are errors, and how many are warnings
pub use Rattle.gtfs_rules.specs.Report.{counts_line}
-- the name of a code, as E01
pub use Rattle.gtfs_schema.specs.Codes.{code_name}
-- what a code says, as "file missing"
pub use Rattle.gtfs_schema.specs.Codes.{code_text}
-- the place of a code in the order of codes: errors first, and then warnings
pub use Rattle.gtfs_schema.specs.Codes.{code_rank}
-- ---- the columns of the nine files

-- the kept columns of a file, in the order in which they are written
pub use Rattle.gtfs_schema.specs.Columns.{columns_of}
-- the name of a column, its kind, and what an empty value is
pub use Rattle.gtfs_schema.specs.Columns.{Column}
-- what the values of a column are: ids, texts, counts, times, dates, ..
pub use Rattle.gtfs_schema.specs.Columns.{Kind}
-- an empty value is an error, or no value, or has a default
pub use Rattle.gtfs_schema.specs.Columns.{Empty}
-- the kept column of a name
pub use Rattle.gtfs_schema.specs.Columns.{column_named}
-- the columns of a file's key
pub use Rattle.gtfs_schema.specs.References.{key_columns}
-- the columns whose values are ids of another file
pub use Rattle.gtfs_schema.specs.References.{references}
-- ---- rows and values

-- a record after the header is a row if one of its fields is not blank
pub use Rattle.gtfs_table.specs.Rows.{is_row}
-- the numbers of a file's rows
pub use Rattle.gtfs_table.specs.Rows.{rows}
-- the text of a column in a row, cut of blanks
pub use Rattle.gtfs_schema.specs.RowConditions.{text_in}
-- the first row of a file that has an id
pub use Rattle.gtfs_schema.specs.RowConditions.{row_with}
-- a text or a number
pub use Rattle.gtfs_schema.specs.FieldValues.{Value}
-- the value of a text of a kind, or why it has none
pub use Rattle.gtfs_schema.specs.FieldValues.{read_as}
-- the value of a text, none where it is empty or its kind does not accept it
pub use Rattle.gtfs_schema.specs.FieldValues.{readable}
-- the text that an empty text of a column stands for
pub use Rattle.gtfs_schema.specs.FieldValues.{meaning}
-- the value of a kept column in a row, where it is readable
pub use Rattle.gtfs_schema.specs.RowConditions.{value_in}
-- the same of a column of ids or texts
pub use Rattle.gtfs_schema.specs.RowConditions.{word_in}
-- the same of a column of numbers
pub use Rattle.gtfs_schema.specs.RowConditions.{amount_in}
-- the number of a choice, in which an empty value has its default
pub use Rattle.gtfs_schema.specs.RowConditions.{choice_in}
-- ---- when each code holds

-- the condition of a code, in one of the nine files
pub use Rattle.gtfs_schema.specs.Problems.{holds_in}
-- E01: the folder lacks a file that it has to have
pub use Rattle.gtfs_schema.specs.FileRules.{file_missing}
-- E02: a file is not UTF-8
pub use Rattle.gtfs_schema.specs.FileRules.{not_utf8}
-- E03: the header lacks a required column
pub use Rattle.gtfs_schema.specs.ColumnRules.{column_missing}
-- E04: the header names a kept column more than once
pub use Rattle.gtfs_schema.specs.ColumnRules.{column_twice}
-- E05: a file that the folder has to have holds no record, or agency.txt no row
pub use Rattle.gtfs_schema.specs.FileRules.{file_empty}
-- E06: a required value is empty
pub use Rattle.gtfs_schema.specs.FieldRules.{value_empty}
-- E07: a value does not have the shape of its kind
pub use Rattle.gtfs_schema.specs.FieldRules.{value_unreadable}
-- E08: a value lies outside of the limits of its kind
pub use Rattle.gtfs_schema.specs.FieldRules.{value_out_of_range}
-- E09: an earlier row has the same key
pub use Rattle.gtfs_schema.specs.KeyRules.{key_twice}
-- E10: an id is named that no row has
pub use Rattle.gtfs_schema.specs.KeyRules.{unknown_reference}
-- E11: a stop is named whose location type does not fit
pub use Rattle.gtfs_schema.specs.StopRules.{wrong_kind_of_stop}
-- E12: a value is missing, or there, against a condition of the reference
pub use Rattle.gtfs_schema.specs.PresenceRules.{value_missing_or_forbidden}
-- E13: an agency has another time zone than the first one
pub use Rattle.gtfs_schema.specs.PresenceRules.{zones_differ}
-- E14: a calendar row ends before it starts
pub use Rattle.gtfs_schema.specs.ServiceRules.{end_before_start}
-- E15: the first or the last stop time of a trip has no time
pub use Rattle.gtfs_schema.specs.TripRules.{end_untimed}
-- E16: a stop is left before it is reached
pub use Rattle.gtfs_schema.specs.TripRules.{departure_before_arrival}
-- E17: a stop is reached before an earlier one is left
pub use Rattle.gtfs_schema.specs.TripRules.{time_goes_back}
-- E18: a row of frequencies.txt ends no later than it starts
pub use Rattle.gtfs_schema.specs.PeriodRules.{period_empty}
-- E19: two rows of frequencies.txt of one trip share a second
pub use Rattle.gtfs_schema.specs.PeriodRules.{periods_overlap}
-- E20: an id holds a control character
pub use Rattle.gtfs_schema.specs.FieldRules.{control_in_id}
-- W01: a row has fewer fields than the header
pub use Rattle.gtfs_schema.specs.FieldRules.{row_short}
-- W02: a row has more fields than the header
pub use Rattle.gtfs_schema.specs.FieldRules.{row_long}
-- W03: a file is none of the nine
pub use Rattle.gtfs_schema.specs.FileRules.{file_not_kept}
-- W04: a column is none of those that are kept
pub use Rattle.gtfs_schema.specs.ColumnRules.{column_not_kept}
-- W05: a text holds a control character
pub use Rattle.gtfs_schema.specs.FieldRules.{control_in_text}
-- W06: a trip has fewer than two stop times
pub use Rattle.gtfs_schema.specs.TripRules.{fewer_than_two_rows}
-- W07: a service is active on no day
pub use Rattle.gtfs_schema.specs.ServiceRules.{service_never_active}
-- W08: a stop time has an arrival time or a departure time, and not the other
pub use Rattle.gtfs_schema.specs.TripRules.{one_time_of_two}

-- The problems of a dataset: when each code holds, their order, and the report.
-- The conditions rest on the GTFS Schedule Reference, each in its own file; the codes and their order are this toolkit's.
use Rattle.std.specs.Prelude.{◌≡◌, ℕ, ◌==◌, ◌&&◌, Bool, true, false, not, List}
use Rattle.std.specs.List.{list_any, list_all}
use Rattle.std.specs.List.Sorted.{IsStrictlySortedBy}
use Rattle.std.specs.Ordering.{nat_cmp, is_eq, on, then_cmp}
use Rattle.std.specs.declared.cmp.Ordering.{Ordering}
use Rattle.gtfs_table.specs.FileNames.{file_name}
use Rattle.gtfs_field.specs.TextOrder.{text_cmp}
use Rattle.gtfs_table.specs.Tables.{Dataset}
use Rattle.gtfs_table.specs.declared.file.File.{File}
use Rattle.gtfs_schema.specs.declared.code.Code.{Code}
use Rattle.gtfs_schema.specs.declared.code.Code.TheVariants as code
use Rattle.gtfs_schema.specs.Codes.{code_rank, is_error}
use Rattle.gtfs_schema.specs.RowConditions.{file_rank, Condition}
use Rattle.gtfs_schema.specs.FileRules.{file_missing, not_utf8, file_empty, file_not_kept}
use Rattle.gtfs_schema.specs.ColumnRules.{column_missing, column_twice, column_not_kept}
use Rattle.gtfs_schema.specs.FieldRules.{value_empty, value_unreadable, value_out_of_range, control_in_id, control_in_text, row_short, row_long}
use Rattle.gtfs_schema.specs.KeyRules.{key_twice, unknown_reference}
use Rattle.gtfs_schema.specs.PresenceRules.{value_missing_or_forbidden, zones_differ}
use Rattle.gtfs_schema.specs.StopRules.{wrong_kind_of_stop}
use Rattle.gtfs_schema.specs.TripRules.{end_untimed, departure_before_arrival, time_goes_back, fewer_than_two_rows, one_time_of_two}
use Rattle.gtfs_schema.specs.PeriodRules.{period_empty, periods_overlap}
use Rattle.gtfs_schema.specs.ServiceRules.{end_before_start, service_never_active}

-- a file of a folder: one of the nine, or another name
pub data FileName : Type 0 where
  kept : File → FileName
  other : List ℕ → FileName

-- a problem: its file, its row (0 for the file as a whole, 1 for the header), its code, and its column or the empty text
pub record Problem : Type 0 where
  pub file : FileName
  pub row : ℕ
  pub code : Code
  pub column : List ℕ

-- ---- which problems hold

-- W03 is reported of other names alone
abbrev pub never : Condition
never d x n name = false

-- the condition of each code, in one of the nine files
abbrev pub holds_in : Code → Condition
holds_in code.E01 = file_missing
holds_in code.E02 = not_utf8
holds_in code.E03 = column_missing
holds_in code.E04 = column_twice
holds_in code.E05 = file_empty
holds_in code.E06 = value_empty
holds_in code.E07 = value_unreadable
holds_in code.E08 = value_out_of_range
holds_in code.E09 = key_twice
holds_in code.E10 = unknown_reference
holds_in code.E11 = wrong_kind_of_stop
holds_in code.E12 = value_missing_or_forbidden
holds_in code.E13 = zones_differ
holds_in code.E14 = end_before_start
holds_in code.E15 = end_untimed
holds_in code.E16 = departure_before_arrival
holds_in code.E17 = time_goes_back
holds_in code.E18 = period_empty
holds_in code.E19 = periods_overlap
holds_in code.E20 = control_in_id
holds_in code.W01 = row_short
holds_in code.W02 = row_long
holds_in code.W03 = never
holds_in code.W04 = column_not_kept
holds_in code.W05 = control_in_text
holds_in code.W06 = fewer_than_two_rows
holds_in code.W07 = service_never_active
holds_in code.W08 = one_time_of_two

abbrev pub is_code : Code → Code → Bool
is_code a b = code_rank a == code_rank b

abbrev pub holds : Code → Dataset → FileName → ℕ → List ℕ → Bool
holds c d (kept x) n name = holds_in c d x n name
holds c d (other x) n name = is_code c code.W03 && file_not_kept d x n name

abbrev pub is_problem : Dataset → Problem → Bool
is_problem d p = holds p.code d p.file p.row p.column

-- ---- their order: the nine files, then other names by their bytes; row; code; column by its bytes

abbrev pub name_rank : FileName → ℕ
name_rank (kept x) = file_rank x
name_rank (other name) = 9

abbrev pub name_bytes : FileName → List ℕ
name_bytes (kept x) = file_name x
name_bytes (other name) = name

abbrev pub name_cmp : FileName → FileName → Ordering
name_cmp = then_cmp (on name_rank nat_cmp) (on name_bytes text_cmp)

abbrev pub problem_cmp : Problem → Problem → Ordering
problem_cmp = then_cmp (on (λ p. p.file) name_cmp)
    (then_cmp (on (λ p. p.row) nat_cmp)
    (then_cmp (on (λ p. code_rank p.code) nat_cmp)
    (on (λ p. p.column) text_cmp)))

-- ---- the report

-- the problem is one of the list
abbrev pub lists_problem : List Problem → Problem → Bool
lists_problem ps p = list_any (λ q. is_eq (problem_cmp p q)) ps

-- the report of a dataset: the strictly ascending list whose members are exactly its problems
pub record IsReport (d : Dataset) (ps : List Problem) : Type 0 where
  pub ascending : IsStrictlySortedBy problem_cmp ps
  pub members : (p : Problem) → lists_problem ps p ≡ is_problem d p

-- no other list is a report of the dataset
abbrev pub IsOnlyReport : Dataset → List Problem → Type 0
IsOnlyReport d ps = (qs : List Problem) → IsReport d qs → qs ≡ ps

-- a dataset passes where none of its problems is an error
abbrev pub Passes : Dataset → Type 0
Passes d = (p : Problem) → is_error p.code ≡ true → is_problem d p ≡ false

-- the same, read off a report
abbrev pub passes : List Problem → Bool
passes ps = list_all (λ p. not (is_error p.code)) ps

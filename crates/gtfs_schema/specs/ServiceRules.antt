-- Problems of services: E14 and W07.
-- GTFS Schedule Reference, `start_date` and `end_date` of calendar.txt; calendar.txt and calendar_dates.txt.
use Rattle.std.specs.Prelude.{ℕ, ◌==◌, ◌&&◌, ◌||◌, not, Bool, List, [], ◌∷◌, codes, is_none, is_some, int_lt}
use Rattle.std.specs.List.{list_any, list_all}
use Rattle.gtfs_days.specs.Service.{is_active}
use Rattle.gtfs_table.specs.Tables.{Dataset}
use Rattle.gtfs_table.specs.declared.file.File.{File}
use Rattle.gtfs_table.specs.declared.file.File.TheVariants as file
use Rattle.gtfs_schema.specs.Columns.{columns_of}
use Rattle.gtfs_schema.specs.References.{reported_column}
use Rattle.gtfs_schema.specs.FieldValues.{if_there, if_both}
use Rattle.gtfs_schema.specs.RowConditions.{is_file, value_in, word_in, amount_in, Rule, Condition, reported_at, any_of}
use Rattle.gtfs_schema.specs.KeyRules.{key_twice}
use Rattle.gtfs_schema.specs.Calendars.{service_rows, first_service_row, service_in, days_named}

-- ---- E14 end before start

abbrev pub ends_before_start : Rule
ends_before_start d n = if_both (amount_in d file.Calendar n "end_date") (amount_in d file.Calendar n "start_date") int_lt

abbrev pub end_before_start : Condition
end_before_start = reported_at file.Calendar "end_date" ends_before_start

-- ---- W07 service never active

-- every kept column of the row is readable, and the row has neither E09 nor E14
abbrev pub is_sound_row : Dataset → File → ℕ → Bool
is_sound_row d x n = list_all (λ c. is_some (value_in d x n c.name)) (columns_of x)
    && not (key_twice d x n (reported_column x)) && not (end_before_start d x n (codes "end_date"))

abbrev pub has_sound_rows : Dataset → List ℕ → File → Bool
has_sound_rows d service x = list_all (is_sound_row d x) (service_rows d x service)

-- the row is the service's first in calendar.txt, else its first in calendar_dates.txt
abbrev pub is_reported_row : Dataset → File → List ℕ → ℕ → Bool
is_reported_row d x service n = if_there (first_service_row d x service) (λ m. m == n)
    && (is_file x file.Calendar || is_none (first_service_row d file.Calendar service))

-- the service of an id runs on no day
abbrev pub never_runs : Dataset → List ℕ → Bool
never_runs d service = not (list_any (is_active (service_in d service)) (days_named (service_in d service)))

abbrev pub is_never_active : File → Rule
is_never_active x d n = if_there (word_in d x n "service_id") (λ service. is_reported_row d x service n
    && has_sound_rows d service file.Calendar && has_sound_rows d service file.CalendarDates && never_runs d service)

abbrev pub service_never_active : Condition
service_never_active = any_of
    (reported_at file.Calendar "service_id" (is_never_active file.Calendar)
    ∷ reported_at file.CalendarDates "service_id" (is_never_active file.CalendarDates)
    ∷ [])

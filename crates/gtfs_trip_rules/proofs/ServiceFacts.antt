-- A service as the code judges it, by its rows, is the service that the definition judges.
use Rattle.std.proofs.Common.{◌≡◌, ℕ, Bool, true, false, List, [], ◌∷◌, map, Option, Some, None, ℤ, refl, sym, ap, ◌∙◌}
use Rattle.std.specs.Prelude.{◌&&◌, ◌||◌, ◌==◌, bytes_eq, codes, filter, if◌then◌else◌, is_none, option_map}
use Rattle.std.proofs.Math.Bool.{and-false as and_false, and-true as and_true, or-false as or_false}
use Rattle.gtfs_days.specs.declared.exception.Exception.{Exception}
use Rattle.gtfs_days.specs.declared.week.Week.{Week}
use Rattle.gtfs_table.specs.Tables.{Dataset}
use Rattle.gtfs_table.specs.declared.file.File.{File}
use Rattle.gtfs_table.specs.declared.file.File.TheVariants as file
use Rattle.gtfs_schema.specs.declared.code.Code.TheVariants as code
use Rattle.gtfs_trip_rules.specs.declared.services.source.Source.{Source}
use Rattle.gtfs_trip_rules.specs.declared.services.source.Source.TheVariants as source
use Rattle.gtfs_schema.specs.Calendars.{exception_in, first_service_row, week_in}
use Rattle.gtfs_schema.specs.Problems.{holds_in}
use Rattle.gtfs_schema.specs.ReadFields.{is_id}
use Rattle.gtfs_table.specs.Rows.{is_row, records_in, rows}
use Rattle.gtfs_trip_rules.specs.ServiceRows.{calendars_in, exception_in_texts, id_in, week_in_texts}
use Rattle.gtfs_schema.specs.ServiceRules.{has_sound_rows, is_reported_row, never_runs, is_never_active as breaks_rule}
use Rattle.gtfs_trip_rules.specs.ServiceCalendars.{are_idle, file_of, first_of, is_never_active, is_sound_and_idle, is_reported, of_source, reported_row, Calendars}
use Rattle.gtfs_schema.specs.FieldValues.{if_there}
use Rattle.gtfs_trip_rules.proofs.ServiceTexts.{id_word}
use Rattle.gtfs_trip_rules.proofs.SoundRows.{find_first}
use Rattle.gtfs_trip_rules.proofs.SoundServices.{dates, exceptions_sound, has_date_id, has_week_id, kept_rows, rows_of_id, weeks, weeks_sound}

-- ---- both files

module _ (d : Dataset) (t : List ℕ) where
  judged : (a b : Bool) (w : Option Week) (es : List (ℤ × Exception))
      → is_sound_and_idle (if a then Some w else None) (if b then Some es else None) ≡ ((a && b) && is_never_active (record { week = w; exceptions = es }))
  judged true true w es = refl
  judged true false w es = refl
  judged false b w es = refl

  pub idle_here : are_idle (calendars_in d) (weeks d t) (dates d t) ≡ ((has_sound_rows d t file.Calendar && has_sound_rows d t file.CalendarDates) && never_runs d t)
  idle_here = (λ i. is_sound_and_idle (weeks_sound d t i) (exceptions_sound d t i))
      ∙ judged (has_sound_rows d t file.Calendar) (has_sound_rows d t file.CalendarDates) (option_map (week_in d) (first_service_row d file.Calendar t)) (map (exception_in d) (dates d t))

  -- the row at which the service is reported
  reported_weeks : (n : ℕ) → is_reported_row d file.Calendar t n ≡ if_there (reported_row source.Weeks (weeks d t) (dates d t)) (λ m. m == n)
  reported_weeks n = and_true _ ∙ ap (λ o. if_there o (λ m. m == n)) (find_first (has_week_id d t) (rows d file.Calendar))

  reported_at_dates : (ws es : List ℕ) (n : ℕ) → (if_there (first_of es) (λ m. m == n) && (false || is_none (first_of ws))) ≡ if_there (reported_row source.Dates ws es) (λ m. m == n)
  reported_at_dates [] es n = and_true (if_there (first_of es) (λ m. m == n))
  reported_at_dates (w ∷ ws) es n = and_false (if_there (first_of es) (λ m. m == n))

  reported_dates : (n : ℕ) → is_reported_row d file.CalendarDates t n ≡ if_there (reported_row source.Dates (weeks d t) (dates d t)) (λ m. m == n)
  reported_dates n =
      (λ i. if_there (find_first (has_date_id d t) (rows d file.CalendarDates) i) (λ m. m == n) && (false || is_none (find_first (has_week_id d t) (rows d file.Calendar) i)))
      ∙ reported_at_dates (weeks d t) (dates d t) n

  four_parts : (a b c e : Bool) → (((a && b) && c) && e) ≡ (a && ((b && c) && e))
  four_parts true b c e = refl
  four_parts false b c e = refl

-- ---- the rule

module _ (d : Dataset) (n : ℕ) where
  abbrev test : File → List ℕ → Bool
  test x t = is_reported_row d x t n && has_sound_rows d t file.Calendar && has_sound_rows d t file.CalendarDates && never_runs d t

  abbrev reported_by : Source → List ℕ → List ℕ → List ℕ → Bool
  reported_by from t ws es = if_there (reported_row from ws es) (λ m. m == n) && are_idle (calendars_in d) ws es

  judged_rows : (from : Source) (t : List ℕ) → is_id t ≡ true
      → is_reported_row d (file_of from) t n ≡ if_there (reported_row from (weeks d t) (dates d t)) (λ m. m == n)
      → test (file_of from) t ≡ reported_by from t (kept_rows d source.Weeks t) (kept_rows d source.Dates t)
  judged_rows from t given reported =
      ap (λ b. b && has_sound_rows d t file.Calendar && has_sound_rows d t file.CalendarDates && never_runs d t) reported
      ∙ four_parts d t (if_there (reported_row from (weeks d t) (dates d t)) (λ m. m == n)) (has_sound_rows d t file.Calendar) (has_sound_rows d t file.CalendarDates) (never_runs d t)
      ∙ ap (λ b. if_there (reported_row from (weeks d t) (dates d t)) (λ m. m == n) && b) (sym (idle_here d t))
      ∙ (λ i. reported_by from t (sym (rows_of_id d source.Weeks t given) i) (sym (rows_of_id d source.Dates t given) i))

  if_id : (b c e : Bool) (p : List ℕ → Bool) (t : List ℕ) → (b ≡ true → p t ≡ (c && e)) → if_there (if b then Some t else None) p ≡ (b && c && e)
  if_id true c e p t h = h refl
  if_id false c e p t h = refl

  rule_is : (from : Source) → breaks_rule (file_of from) d n ≡ is_reported (calendars_in d) from n
  rule_is source.Weeks =
      let t = id_in d source.Weeks n in
      ap (λ o. if_there o (test file.Calendar)) (id_word t)
      ∙ if_id (is_id t) (if_there (reported_row source.Weeks (kept_rows d source.Weeks t) (kept_rows d source.Dates t)) (λ m. m == n))
      (are_idle (calendars_in d) (kept_rows d source.Weeks t) (kept_rows d source.Dates t)) (test file.Calendar) t
      (λ given. judged_rows source.Weeks t given (reported_weeks d t n))
  rule_is source.Dates =
      let t = id_in d source.Dates n in
      ap (λ o. if_there o (test file.CalendarDates)) (id_word t)
      ∙ if_id (is_id t) (if_there (reported_row source.Dates (kept_rows d source.Weeks t) (kept_rows d source.Dates t)) (λ m. m == n))
      (are_idle (calendars_in d) (kept_rows d source.Weeks t) (kept_rows d source.Dates t)) (test file.CalendarDates) t
      (λ given. judged_rows source.Dates t given (reported_dates d t n))

  pub condition_is : (from : Source) → holds_in code.W07 d (file_of from) n (codes "service_id") ≡ (is_row (records_in d (file_of from)) n && is_reported (calendars_in d) from n)
  condition_is source.Weeks = or_false (is_row (records_in d file.Calendar) n && breaks_rule file.Calendar d n) ∙ ap (λ b. is_row (records_in d file.Calendar) n && b) (rule_is source.Weeks)
  condition_is source.Dates = or_false (is_row (records_in d file.CalendarDates) n && breaks_rule file.CalendarDates d n) ∙ ap (λ b. is_row (records_in d file.CalendarDates) n && b) (rule_is source.Dates)

-- ---- the rows and the columns that were found

abbrev calendars_with : (ℕ → List ℕ) → (ℕ → List ℕ) → (List ℕ → List ℕ) → (List ℕ → List ℕ) → (ℕ → Option Week) → (ℕ → Option (ℤ × Exception)) → Calendars
calendars_with week_id date_id week_rows date_rows week exception =
    record { ids = of_source week_id date_id; rows = of_source week_rows date_rows; week = week; exception = exception }

at_source : {X : Type 0} (a b : X) (h : Source → X) → a ≡ h source.Weeks → b ≡ h source.Dates → (from : Source) → of_source a b from ≡ h from
at_source a b h e f source.Weeks = e
at_source a b h e f source.Dates = f

rows_by_id : (d : Dataset) (x : File) (f g : ℕ → List ℕ) (found : List ℕ → List ℕ) → ((n : ℕ) → f n ≡ g n)
    → ((t : List ℕ) → found t ≡ filter (λ n. bytes_eq (f n) t) (rows d x)) → found ≡ (λ t. filter (λ n. bytes_eq (g n) t) (rows d x))
rows_by_id d x f g found same is = λ i t. (is t ∙ ap (λ (p : ℕ → Bool). filter p (rows d x)) (λ j n. bytes_eq (same n j) t)) i

pub calendars_made : (d : Dataset) (week_id date_id : ℕ → List ℕ) (week_rows date_rows : List ℕ → List ℕ) (week : ℕ → Option Week) (exception : ℕ → Option (ℤ × Exception))
    → ((n : ℕ) → week_id n ≡ id_in d source.Weeks n) → ((n : ℕ) → date_id n ≡ id_in d source.Dates n)
    → ((t : List ℕ) → week_rows t ≡ filter (λ n. bytes_eq (week_id n) t) (rows d file.Calendar))
    → ((t : List ℕ) → date_rows t ≡ filter (λ n. bytes_eq (date_id n) t) (rows d file.CalendarDates))
    → ((n : ℕ) → week n ≡ week_in_texts d n) → ((n : ℕ) → exception n ≡ exception_in_texts d n)
    → calendars_with week_id date_id week_rows date_rows week exception ≡ calendars_in d
calendars_made d week_id date_id week_rows date_rows week exception ids1 ids2 rows1 rows2 weeks_are exceptions_are = λ i. record {
  ids = λ from. at_source week_id date_id (id_in d) (λ j n. ids1 n j) (λ j n. ids2 n j) from i;
  rows = λ from. at_source week_rows date_rows (calendars_in d).rows
      (rows_by_id d file.Calendar week_id (id_in d source.Weeks) week_rows ids1 rows1)
      (rows_by_id d file.CalendarDates date_id (id_in d source.Dates) date_rows ids2 rows2) from i;
  week = λ n. weeks_are n i;
  exception = λ n. exceptions_are n i;
}

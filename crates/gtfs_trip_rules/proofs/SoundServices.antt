-- The rows of a service are taken where the definition finds them sound.
use Rattle.std.proofs.Common.{◌≡◌, ℕ, ◌-◌, Bool, true, false, List, [], ◌∷◌, map, length, Option, Some, None, ℤ, pos, refl, sym, ap, ◌∙◌, inl, inr, arith}
use Rattle.std.specs.Prelude.{◌&&◌, not, nat_lt, bytes_eq, codes, filter, if◌then◌else◌, is_some, option_map, option_and_then, unwrap_or, int_le, int_lt}
use Rattle.std.specs.List.{list_all, list_any, range_with_len}
use Rattle.std.specs.Ordering.{int_eq}
use Rattle.std.specs.Cmp.Lexicographic.{pointwise}
use Rattle.std.specs.Result.{result_ok}
use Rattle.std.proofs.lemmas.Bool.{cases_Bool}
use Rattle.std.proofs.lemmas.Int.{ints}
use Rattle.std.proofs.Math.Bool.{and-false as and_false, and-true as and_true}
use Rattle.gtfs_days.specs.declared.exception.Exception.{Exception}
use Rattle.gtfs_field.specs.Kinds.{date_of}
use Rattle.gtfs_table.specs.Tables.{Dataset}
use Rattle.gtfs_table.specs.declared.file.File.{File}
use Rattle.gtfs_table.specs.declared.file.File.TheVariants as file
use Rattle.gtfs_trip_rules.specs.declared.services.source.Source.{Source}
use Rattle.gtfs_trip_rules.specs.declared.services.source.Source.TheVariants as source
use Rattle.gtfs_schema.specs.Calendars.{exception_in, first_service_row, service_rows, week_in}
use Rattle.gtfs_schema.specs.Columns.{id}
use Rattle.gtfs_schema.specs.KeyRules.{all_there, same_key}
use Rattle.gtfs_schema.specs.ReadFields.{is_id}
use Rattle.gtfs_schema.specs.RowConditions.{amount_in, value_in, word_in}
use Rattle.gtfs_table.specs.Rows.{is_row, records_in, rows}
use Rattle.gtfs_trip_rules.specs.ServiceRows.{date_text, exception_in_texts, id_in, week_in_texts, week_text}
use Rattle.gtfs_schema.specs.ServiceRules.{ends_before_start, has_sound_rows, is_sound_row}
use Rattle.gtfs_trip_rules.specs.ServiceCalendars.{each_day_once, exceptions_of_rows, file_of, week_of_rows}
use Rattle.gtfs_schema.specs.FieldValues.{Value, word, amount, as_word, if_both, if_there, is_word, readable, value_eq}
use Rattle.gtfs_schema.proofs.BoolFacts.{and_parts}
use Rattle.gtfs_schema.proofs.SiteFacts.{text_is}
use Rattle.gtfs_schema.proofs.NamedFacts.{text_turned as same_text}
use Rattle.gtfs_trip_rules.proofs.ServiceTexts.{date_amount, date_readable, date_value, day_is, exception_is, id_word, is_date_readable, is_week_readable, readable_days, week_is, week_readable}
use Rattle.gtfs_trip_rules.proofs.SoundRows.{all_alike, all_both, all_read, any_kept, apart, apart_is, days_once, find_first, rising_filter, rising_range, week_sound, Rising}

-- ---- the rows of a service

-- a text with a readable id is that id
is_that_id : (t a : List ℕ) → is_id t ≡ true → bytes_eq a t ≡ if_there (option_and_then as_word (readable id a)) (bytes_eq t)
is_that_id t a given = elim (cases_Bool (is_id a)) [
  | inl has ↦ same_text a t ∙ sym (ap (λ o. if_there o (bytes_eq t)) (id_word a ∙ ap (λ b. if b then Some a else None) has))
  | inr hasnt ↦ sym (ap (λ o. if_there o (bytes_eq t)) (id_word a ∙ ap (λ b. if b then Some a else None) hasnt) ∙ other hasnt)
]
  where
    other : is_id a ≡ false → false ≡ bytes_eq a t
    other isnt = elim (cases_Bool (bytes_eq a t)) [
      | inl same ↦ let both : is_id a ≡ is_id t = ap is_id (text_is a t same) in cc (sym isnt ∙ both ∙ given)
      | inr differs ↦ sym differs
    ]

abbrev pub kept_rows : Dataset → Source → List ℕ → List ℕ
kept_rows d from t = filter (λ n. bytes_eq (id_in d from n) t) (rows d (file_of from))

pub rows_of_id : (d : Dataset) (from : Source) (t : List ℕ) → is_id t ≡ true → kept_rows d from t ≡ service_rows d (file_of from) t
rows_of_id d source.Weeks t given = ap (λ p. filter p (rows d file.Calendar)) (λ i n. is_that_id t (id_in d source.Weeks n) given i)
rows_of_id d source.Dates t given = ap (λ p. filter p (rows d file.CalendarDates)) (λ i n. is_that_id t (id_in d source.Dates n) given i)

rising_rows : (d : Dataset) (x : File) (t : List ℕ) → Rising (service_rows d x t)
rising_rows d x t = rising_filter _ _ (rising_filter (is_row (records_in d x)) _ (rising_range 2 (length (records_in d x) - 1)))

-- a value that is a given id is there
id_there : (v : Option Value) (t : List ℕ) → is_word (option_and_then as_word v) t ≡ true → is_some v ≡ true
id_there None t has = cc has
id_there (Some v) t has = refl

-- ---- keys and days of calendar.txt

same_week_key : (v w : Option Value) (t : List ℕ) → is_word (option_and_then as_word v) t ≡ true
    → if_both (all_there (v ∷ [])) (all_there (w ∷ [])) (pointwise value_eq) ≡ is_word (option_and_then as_word w) t
same_week_key None w t has = cc has
same_week_key (Some (amount x)) w t has = cc has
same_week_key (Some (word a)) None t has = refl
same_week_key (Some (word a)) (Some (amount y)) t has = refl
same_week_key (Some (word a)) (Some (word b)) t has = and_true (bytes_eq a b) ∙ ap (λ c. bytes_eq c b) (sym (text_is t a has))

ordered_days : (s e : Option ℤ) → is_some s ≡ true → is_some e ≡ true → not (if_both e s int_lt) ≡ int_le (unwrap_or s (pos 0)) (unwrap_or e (pos 0))
ordered_days None e h k = cc h
ordered_days (Some x) None h k = cc k
ordered_days (Some x) (Some y) h k = not_below x y
  where
    not_below : (a b : ℤ) → not (int_lt b a) ≡ int_le a b
    not_below a b = grind (arith, ints)

-- ---- keys of calendar_dates.txt

last_two : (a b : Bool) → (a && (b && true)) ≡ (a && b)
last_two a b = ap (λ c. a && c) (and_true b)

same_date_key : (v w : Option Value) (x y : Option ℤ) (t : List ℕ) → is_word (option_and_then as_word v) t ≡ true
    → if_both (all_there (v ∷ option_map amount x ∷ [])) (all_there (w ∷ option_map amount y ∷ [])) (pointwise value_eq)
    ≡ (is_word (option_and_then as_word w) t && if_both x y int_eq)
same_date_key None w x y t has = cc has
same_date_key (Some (amount z)) w x y t has = cc has
same_date_key (Some (word a)) w None y t has = sym (and_false (is_word (option_and_then as_word w) t))
same_date_key (Some (word a)) None (Some x) y t has = refl
same_date_key (Some (word a)) (Some (amount z)) (Some x) None t has = refl
same_date_key (Some (word a)) (Some (amount z)) (Some x) (Some y) t has = refl
same_date_key (Some (word a)) (Some (word b)) (Some x) None t has = sym (and_false (bytes_eq t b))
same_date_key (Some (word a)) (Some (word b)) (Some x) (Some y) t has =
    last_two (bytes_eq a b) (int_eq x y) ∙ ap (λ c. bytes_eq c b && int_eq x y) (sym (text_is t a has))

-- ---- sound rows

module _ (d : Dataset) (t : List ℕ) where
  abbrev pub weeks : List ℕ
  weeks = service_rows d file.Calendar t

  abbrev pub dates : List ℕ
  dates = service_rows d file.CalendarDates t

  abbrev pub has_week_id : ℕ → Bool
  has_week_id n = is_word (word_in d file.Calendar n "service_id") t

  abbrev pub has_date_id : ℕ → Bool
  has_date_id n = is_word (word_in d file.CalendarDates n "service_id") t

  abbrev ends_early : ℕ → Bool
  ends_early n = ends_before_start d n

  ordered_week : (n : ℕ) → is_week_readable d n ≡ true → not (ends_early n) ≡ int_le (week_in d n).start (week_in d n).end
  ordered_week n has =
      let ends = readable_days d n has in
      ordered_days (amount_in d file.Calendar n "start_date") (amount_in d file.Calendar n "end_date")
      (ap is_some (date_amount (week_text d n "start_date")) ∙ ends.0) (ap is_some (date_amount (week_text d n "end_date")) ∙ ends.1)

  week_twice : (n : ℕ) → has_week_id n ≡ true → list_any (λ m. nat_lt m n && same_key d file.Calendar n m) (rows d file.Calendar) ≡ list_any (λ m. nat_lt m n) weeks
  week_twice n has =
      ap (λ p. list_any p (rows d file.Calendar))
      (λ i m. nat_lt m n && same_week_key (value_in d file.Calendar n (codes "service_id")) (value_in d file.Calendar m (codes "service_id")) t has i)
      ∙ any_kept (λ m. nat_lt m n) has_week_id (rows d file.Calendar)

  sound_week : (n : ℕ) → is_row (records_in d file.Calendar) n ≡ true → has_week_id n ≡ true
      → is_sound_row d file.Calendar n ≡ ((is_week_readable d n && not (list_any (λ m. nat_lt m n) weeks)) && not (ends_early n))
  sound_week n row has =
      let there : is_some (value_in d file.Calendar n (codes "service_id")) ≡ true = id_there (value_in d file.Calendar n (codes "service_id")) t has in
      λ i. ((week_readable d n ∙ ap (λ b. b && is_week_readable d n) there) i && not (row i && week_twice n has i)) && not (row i && ends_early n)

  -- the calendar row of a service is taken where its rows are sound
  pub weeks_sound : week_of_rows (week_in_texts d) weeks ≡ (if has_sound_rows d t file.Calendar then Some (option_map (week_in d) (first_service_row d file.Calendar t)) else None)
  weeks_sound =
      week_sound (week_in_texts d) (is_week_readable d) ends_early (week_in d) (week_is d) ordered_week weeks (rising_rows d file.Calendar t)
      ∙ (λ i. if sym (all_alike has_week_id (is_row (records_in d file.Calendar)) (is_sound_row d file.Calendar)
      (λ n. (is_week_readable d n && not (list_any (λ m. nat_lt m n) weeks)) && not (ends_early n)) sound_week
      (range_with_len 2 (length (records_in d file.Calendar) - 1))) i
      then Some (option_map (week_in d) (sym (find_first has_week_id (rows d file.Calendar)) i)) else None)

  abbrev day_on : ℕ → Option ℤ
  day_on n = result_ok (date_of (date_text d n "date"))

  abbrev same_date : ℕ → ℕ → Bool
  same_date n m = if_both (day_on n) (day_on m) int_eq

  move_last : (a b c : Bool) → (a && (b && c)) ≡ ((a && c) && b)
  move_last true true c = sym (and_true c)
  move_last true false c = sym (and_false c)
  move_last false b c = refl

  date_twice : (n : ℕ) → has_date_id n ≡ true → list_any (λ m. nat_lt m n && same_key d file.CalendarDates n m) (rows d file.CalendarDates) ≡ list_any (λ m. nat_lt m n && same_date n m) dates
  date_twice n has =
      let v : ℕ → Option Value = λ m. value_in d file.CalendarDates m (codes "service_id") in
      ap (λ p. list_any p (rows d file.CalendarDates))
      (λ i m. nat_lt m n && if_both (all_there (v n ∷ date_value (date_text d n "date") i ∷ [])) (all_there (v m ∷ date_value (date_text d m "date") i ∷ [])) (pointwise value_eq))
      ∙ ap (λ p. list_any p (rows d file.CalendarDates)) (λ i m. nat_lt m n && same_date_key (v n) (v m) (day_on n) (day_on m) t has i)
      ∙ ap (λ p. list_any p (rows d file.CalendarDates)) (λ i m. move_last (nat_lt m n) (has_date_id m) (same_date n m) i)
      ∙ any_kept (λ m. nat_lt m n && same_date n m) has_date_id (rows d file.CalendarDates)

  sound_date : (n : ℕ) → is_row (records_in d file.CalendarDates) n ≡ true → has_date_id n ≡ true
      → is_sound_row d file.CalendarDates n ≡ (is_date_readable d n && not (list_any (λ m. nat_lt m n && same_date n m) dates))
  sound_date n row has =
      let there : is_some (value_in d file.CalendarDates n (codes "service_id")) ≡ true = id_there (value_in d file.CalendarDates n (codes "service_id")) t has in
      (λ i. ((date_readable d n ∙ ap (λ b. b && is_date_readable d n) there) i && not (row i && date_twice n has i)) && true)
      ∙ and_true (is_date_readable d n && not (list_any (λ m. nat_lt m n && same_date n m) dates))

  dates_apart : has_sound_rows d t file.CalendarDates ≡ (list_all (is_date_readable d) dates && apart same_date dates)
  dates_apart =
      all_alike has_date_id (is_row (records_in d file.CalendarDates)) (is_sound_row d file.CalendarDates)
      (λ n. is_date_readable d n && not (list_any (λ m. nat_lt m n && same_date n m) dates)) sound_date (range_with_len 2 (length (records_in d file.CalendarDates) - 1))
      ∙ all_both (is_date_readable d) (λ n. not (list_any (λ m. nat_lt m n && same_date n m) dates)) dates
      ∙ ap (λ b. list_all (is_date_readable d) dates && b) (apart_is same_date dates (rising_rows d file.CalendarDates t))

  all_days : (ns : List ℕ) → list_all (is_date_readable d) ns ≡ true → list_all (λ n. is_some (day_on n)) ns ≡ true
  all_days [] h = refl
  all_days (n ∷ ns) h =
      let parts = and_parts (is_date_readable d n) (list_all (is_date_readable d) ns) h in
      let here : is_some (day_on n) ≡ true = (and_parts (is_some (day_on n)) _ parts.0).0 in
      λ i. here i && all_days ns parts.1 i

  if_both_tests : (a b : Bool) (es : List (ℤ × Exception)) → each_day_once es ≡ b
      → option_and_then (λ fs. if each_day_once fs then Some fs else None) (if a then Some es else None) ≡ (if a && b then Some es else None)
  if_both_tests true b es h = ap (λ c. if c then Some es else None) h
  if_both_tests false b es h = refl

  -- the exceptions of a service are taken where its rows are sound
  pub exceptions_sound : exceptions_of_rows (exception_in_texts d) dates ≡ (if has_sound_rows d t file.CalendarDates then Some (map (exception_in d) dates) else None)
  exceptions_sound =
      let read : all_there (map (exception_in_texts d) dates) ≡ (if list_all (is_date_readable d) dates then Some (map (exception_in d) dates) else None) =
      all_read (exception_in_texts d) (is_date_readable d) (exception_in d) (exception_is d) dates in
      ap (option_and_then (λ fs. if each_day_once fs then Some fs else None)) read
      ∙ (elim (cases_Bool (list_all (is_date_readable d) dates)) [
        | inl all ↦ if_both_tests (list_all (is_date_readable d) dates) (apart same_date dates) (map (exception_in d) dates)
            (days_once day_on (exception_in d) (λ n. sym (day_is (date_text d n "date"))) dates (all_days dates all))
        | inr some ↦ (λ i. option_and_then (λ fs. if each_day_once fs then Some fs else None) (if some i then Some (map (exception_in d) dates) else None))
            ∙ (λ i. if sym some i && apart same_date dates then Some (map (exception_in d) dates) else None)
      ])
      ∙ ap (λ b. if b then Some (map (exception_in d) dates) else None) (sym dates_apart)

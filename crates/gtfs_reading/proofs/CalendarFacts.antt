-- The service of an id in a dataset that passes.
use Rattle.std.proofs.Common.{◌≡◌, ℕ, ◌∷◌, [], List, map, get_or, true, false, Bool, codes, Option, Some, None, is_some, refl, sym, ap, ◌∙◌, subst, arith, inl, inr}
use Rattle.std.specs.Prelude.{◌&&◌, bytes_eq, filter, find, option_and_then, unwrap_or, int_lt, ℤ, pos, ◌≤ℤ◌}
use Prim.Native.String.{String as Literal}
use Rattle.std.specs.List.{All}
use Rattle.std.proofs.lemmas.Bool.{cases_Bool}
use Rattle.std.proofs.lemmas.Int.{ints}
use Rattle.std.proofs.lemmas.List.Elements.{All-filter, All-head, All-tail}
use Rattle.gtfs_days.specs.Service.{NamesEachDayOnce}
use Rattle.gtfs_days.specs.declared.exception.Exception.{Exception}
use Rattle.gtfs_table.specs.Rows.{is_row, records_in, rows}
use Rattle.gtfs_table.specs.Tables.{Dataset}
use Rattle.gtfs_table.specs.declared.file.File.{File}
use Rattle.gtfs_table.specs.declared.file.File.TheVariants as file
use Rattle.gtfs_schema.specs.declared.code.Code.TheVariants as code
use Rattle.gtfs_schema.specs.Calendars.{exception_in, first_service_row, service_rows, week_in}
use Rattle.gtfs_schema.specs.Columns.{Column, id, date, refused, required, column_named}
use Rattle.gtfs_schema.specs.Problems.{Passes, kept}
use Rattle.gtfs_schema.specs.RowConditions.{amount_in, text_in, word_in}
use Rattle.gtfs_schema.specs.FieldValues.{as_amount, if_both, is_word, readable}
use Rattle.gtfs_schema.proofs.NamedFacts.{text_turned}
use Rattle.gtfs_schema.proofs.ReadFacts.{amount_some, read_as_there, stands}
use Rattle.gtfs_rows.proofs.SameElements.{pairs-map}
use Rattle.gtfs_reading.specs.CalendarRows.{rows_with}
use Rattle.gtfs_reading.proofs.IdTexts.{filled_required, word_there}
use Rattle.gtfs_reading.proofs.RowKeys.{all_rows, numbers_apart}

-- ---- the rows with an id

filter_same : (p q : ℕ → Bool) (ns : List ℕ) → All (λ n. p n ≡ q n) ns → filter p ns ≡ filter q ns
filter_same p q [] same = refl
filter_same p q (n ∷ ns) same =
    let here : p n ≡ q n = All-head (λ n. p n ≡ q n) n ns same in
    let rest = filter_same p q ns (All-tail (λ n. p n ≡ q n) n ns same) in
    elim (cases_Bool (q n)) [
      | inl good ↦ (let both : p n ≡ true = here ∙ good in rw (both, good) (ap (λ ms. n ∷ ms) rest))
      | inr bad ↦ (let both : p n ≡ false = here ∙ bad in rw (both, bad) rest)
    ]

pub rows_named : (d : Dataset) → Passes d → (x : File) (column : Literal) (c : Column) → column_named x (codes column) ≡ Some c → c.kind ≡ id → c.empty ≡ refused
    → (t : List ℕ) → rows_with d x (codes column) t ≡ filter (λ n. is_word (word_in d x n column) t) (rows d x)
rows_named d passes x column c there is_id required t =
    filter_same (λ n. bytes_eq (text_in d x n (codes column)) t) (λ n. is_word (word_in d x n column) t) (rows d x) (λ k e h.
    let n = get_or (rows d x) k e in
    let row : is_row (records_in d x) n ≡ true = all_rows d x k e h in
    text_turned (text_in d x n (codes column)) t
    ∙ sym (ap (λ o. is_word o t) (word_there d passes x n row column c there is_id (filled_required d passes x n row column c there is_id required))))

-- ---- the first row

abbrev pub head_of : List ℕ → Option ℕ
head_of [] = None
head_of (n ∷ ns) = Some n

found_head : (p : ℕ → Bool) (ns : List ℕ) → find p ns ≡ head_of (filter p ns)
found_head p [] = refl
found_head p (n ∷ ns) = elim (cases_Bool (p n)) [
  | inl here ↦ rw here refl
  | inr later ↦ rw later (found_head p ns)
]

module _ (d : Dataset) (passes : Passes d) where
  -- the calendar row of a service is the first of its rows
  pub first_week : (t ns : List ℕ) → ns ≡ rows_with d file.Calendar (codes "service_id") t → first_service_row d file.Calendar t ≡ head_of ns
  first_week t ns are =
      found_head (λ n. is_word (word_in d file.Calendar n "service_id") t) (rows d file.Calendar)
      ∙ ap head_of (sym (are ∙ rows_named d passes file.Calendar "service_id" (required "service_id" id) refl refl refl t))

  pub dates_named : (t : List ℕ) → rows_with d file.CalendarDates (codes "service_id") t ≡ service_rows d file.CalendarDates t
  dates_named t = rows_named d passes file.CalendarDates "service_id" (required "service_id" id) refl refl refl t

  pub week_rows : (t ns : List ℕ) → ns ≡ rows_with d file.Calendar (codes "service_id") t → All (λ n. is_row (records_in d file.Calendar) n ≡ true) ns
  week_rows t ns are = subst (All (λ n. is_row (records_in d file.Calendar) n ≡ true)) (sym are)
      (All-filter (λ n. bytes_eq (text_in d file.Calendar n (codes "service_id")) t) (λ n. is_row (records_in d file.Calendar) n ≡ true) (rows d file.Calendar) (all_rows d file.Calendar))

  -- ---- the days of a calendar row

  date_there : (x : File) (n : ℕ) → is_row (records_in d x) n ≡ true → (column : Literal) → column_named x (codes column) ≡ Some (required column date)
      → is_some (amount_in d x n column) ≡ true
  date_there x n row column there =
      let t = text_in d x n (codes column) in
      let s = stands d passes x n row (codes column) (required column date) there t refl in
      ap (λ o. is_some (option_and_then as_amount (option_and_then (λ c. readable c.kind t) o))) there ∙ amount_some date refl t ∙ read_as_there date refused t s refl

  ends_later : (s e : Option ℤ) → is_some s ≡ true → is_some e ≡ true → if_both e s int_lt ≡ false → unwrap_or s (pos 0) ≤ℤ unwrap_or e (pos 0)
  ends_later None e there other h = cc there
  ends_later (Some a) None there other h = cc other
  ends_later (Some a) (Some b) there other h = grind (arith, ints)

  row_told : (row told : Bool) → row ≡ true → (row && told) ≡ false → told ≡ false
  row_told true told r e = e
  row_told false told r e = cc r

  pub week_ordered : (n : ℕ) → is_row (records_in d file.Calendar) n ≡ true → (week_in d n).start ≤ℤ (week_in d n).end
  week_ordered n row =
      ends_later (amount_in d file.Calendar n "start_date") (amount_in d file.Calendar n "end_date")
      (date_there file.Calendar n row "start_date" refl) (date_there file.Calendar n row "end_date" refl)
      (row_told (is_row (records_in d file.Calendar) n) _ row (passes (record { file = kept file.Calendar; row = n; code = code.E14; column = codes "end_date" }) refl))

  -- ---- the exceptions of a service

  there_is : (o : Option ℤ) → is_some o ≡ true → o ≡ Some (unwrap_or o (pos 0))
  there_is None e = cc e
  there_is (Some a) e = refl

  abbrev dates : List ℕ → List ℕ
  dates t = service_rows d file.CalendarDates t

  date_at : (t : List ℕ) → All (λ n. amount_in d file.CalendarDates n "date" ≡ Some (exception_in d n).0) (dates t)
  date_at t k e h =
      let n = get_or (dates t) k e in
      there_is (amount_in d file.CalendarDates n "date") (date_there file.CalendarDates n (among t k e h) "date" refl)
    where
      among : (t : List ℕ) → All (λ n. is_row (records_in d file.CalendarDates) n ≡ true) (dates t)
      among t = All-filter (λ n. is_word (word_in d file.CalendarDates n "service_id") t) (λ n. is_row (records_in d file.CalendarDates) n ≡ true) (rows d file.CalendarDates) (all_rows d file.CalendarDates)

  pub days_once : (t : List ℕ) → NamesEachDayOnce (map (exception_in d) (service_rows d file.CalendarDates t))
  days_once t = pairs-map (exception_in d) (λ (e f : ℤ × Exception). e.0 ≡ f.0 → ⊥) (dates t) (λ i j e h l same.
      numbers_apart d passes file.CalendarDates "service_id" "date" (λ n. refl) t i j e h l (exception_in d (get_or (dates t) i e)).0
      (date_at t i e (omega (arith, h, l)))
      (date_at t j e l ∙ ap Some (sym same)))

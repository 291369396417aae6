-- What the texts of a row of both files of services say, against the values of its columns.
use Rattle.std.proofs.Common.{◌≡◌, ℕ, Bool, true, false, List, [], ◌∷◌, Option, Some, None, ℤ, pos, refl, sym, ap, ◌∙◌, arith}
use Rattle.std.specs.Prelude.{◌==◌, ◌&&◌, not, codes, if◌then◌else◌, is_some, option_map, option_and_then, unwrap_or, Result, Ok, Err}
use Rattle.std.specs.List.{list_all}
use Rattle.std.specs.Ordering.{int_eq}
use Rattle.std.specs.Result.{result_ok}
use Rattle.std.proofs.lemmas.Bool.Decides.{nat_tests}
use Rattle.std.proofs.lemmas.Int.{ints}
use Rattle.gtfs_days.specs.declared.week.Week.{Week}
use Rattle.gtfs_days.specs.declared.exception.Exception.{Exception}
use Rattle.gtfs_field.specs.declared.fault.FieldFault.{FieldFault}
use Rattle.gtfs_field.specs.Kinds.{count_of, date_of, shaped}
use Rattle.gtfs_table.specs.Tables.{Dataset}
use Rattle.gtfs_table.specs.declared.file.File.TheVariants as file
use Rattle.gtfs_schema.specs.Calendars.{exception_in, week_in}
use Rattle.gtfs_schema.specs.Columns.{id, choice, date, columns_of}
use Rattle.gtfs_schema.specs.ReadFields.{is_id}
use Rattle.gtfs_schema.specs.RowConditions.{value_in}
use Rattle.gtfs_trip_rules.specs.ServiceRows.{date_text, exception_in_texts, week_in_texts, week_text}
use Rattle.gtfs_trip_rules.specs.ServiceCalendars.{exception_type_of}
use Rattle.gtfs_schema.specs.FieldValues.{word, amount, as_amount, as_word, value_of_count, has_control, measured, one_of, readable}
use Rattle.gtfs_table.specs.Rows.{is_empty}
use Rattle.gtfs_schema.proofs.BoolFacts.{and_parts}
use Rattle.gtfs_schema.proofs.ValueFacts.{amount_back, counted_amount}

-- ---- ids

word_at : (empty control : Bool) (t : List ℕ)
    → let read = if empty then None else result_ok (shaped (not control) (Ok (word t))) in option_and_then as_word read ≡ (if is_some read then Some t else None)
word_at true true t = refl
word_at true false t = refl
word_at false true t = refl
word_at false false t = refl

pub id_word : (t : List ℕ) → option_and_then as_word (readable id t) ≡ (if is_id t then Some t else None)
id_word t = word_at (is_empty t) (has_control t) t

-- ---- choices and dates

counted_some : (r : Result ℕ FieldFault) → is_some (result_ok (value_of_count r)) ≡ is_some (result_ok r)
counted_some (Ok n) = refl
counted_some (Err e) = refl

measured_is : (r : Result ℤ FieldFault) → result_ok (measured r) ≡ option_map amount (result_ok r)
measured_is (Ok x) = refl
measured_is (Err e) = refl

choice_at : (empty : Bool) (r : Result ℕ FieldFault) → (empty ≡ true → result_ok r ≡ None)
    → option_and_then as_amount (if empty then None else result_ok (value_of_count r)) ≡ option_map pos (result_ok r)
choice_at true r none = ap (option_map pos) (sym (none refl))
choice_at false r none = counted_amount r

some_at : (empty : Bool) (r : Result ℕ FieldFault) → (empty ≡ true → result_ok r ≡ None)
    → is_some (if empty then None else result_ok (value_of_count r)) ≡ is_some (result_ok r)
some_at true r none = ap is_some (sym (none refl))
some_at false r none = counted_some r

empty_choice : (rs : List (ℕ × ℕ)) (t : List ℕ) → is_empty t ≡ true → result_ok (one_of rs (count_of t)) ≡ None
empty_choice rs [] e = refl
empty_choice rs (b ∷ bs) e = let filled : is_empty (b ∷ bs) ≡ false = grind (arith, nat_tests) in cc (sym filled ∙ e)

choice_amount : (rs : List (ℕ × ℕ)) (t : List ℕ) → option_and_then as_amount (readable (choice rs) t) ≡ option_map pos (result_ok (one_of rs (count_of t)))
choice_amount rs t = choice_at (is_empty t) (one_of rs (count_of t)) (empty_choice rs t)

choice_some : (rs : List (ℕ × ℕ)) (t : List ℕ) → is_some (readable (choice rs) t) ≡ is_some (result_ok (one_of rs (count_of t)))
choice_some rs t = some_at (is_empty t) (one_of rs (count_of t)) (empty_choice rs t)

pub date_value : (t : List ℕ) → readable date t ≡ option_map amount (result_ok (date_of t))
date_value [] = refl
date_value (b ∷ bs) =
    let filled : is_empty (b ∷ bs) ≡ false = grind (arith, nat_tests) in
    rw filled (measured_is (date_of (b ∷ bs)))

some_amount : (o : Option ℤ) → is_some (option_map amount o) ≡ is_some o
some_amount None = refl
some_amount (Some x) = refl

pub date_amount : (t : List ℕ) → option_and_then as_amount (readable date t) ≡ result_ok (date_of t)
date_amount t = ap (option_and_then as_amount) (date_value t) ∙ amount_back (result_ok (date_of t))

date_some : (t : List ℕ) → is_some (readable date t) ≡ is_some (result_ok (date_of t))
date_some t = ap is_some (date_value t) ∙ some_amount (result_ok (date_of t))

-- ---- a row of calendar.txt

same_one : (n : ℕ) → int_eq (pos n) (pos 1) ≡ (n == 1)
same_one n = grind (arith, nat_tests, ints)

abbrev choice_01 : List ℕ → Option ℕ
choice_01 t = result_ok (one_of ((0, 1) ∷ []) (count_of t))

abbrev runs : Option ℕ → Bool
runs o = int_eq (unwrap_or (option_map pos o) (pos 0)) (pos 1)

abbrev week_at_most : (a1 a2 a3 a4 a5 a6 a7 : Option ℕ) → Option ℤ → Option ℤ → Option Week
week_at_most a1 a2 a3 a4 a5 a6 a7 s e =
    if is_some a1 && (is_some a2 && (is_some a3 && (is_some a4 && (is_some a5 && (is_some a6 && (is_some a7 && (is_some s && (is_some e && true))))))))
    then Some (record { days = runs a1 ∷ runs a2 ∷ runs a3 ∷ runs a4 ∷ runs a5 ∷ runs a6 ∷ runs a7 ∷ []; start = unwrap_or s (pos 0); end = unwrap_or e (pos 0) })
    else None

abbrev day_of : Option ℕ → Option Bool
day_of o = option_map (λ n. n == 1) o

abbrev week_made : (d1 d2 d3 d4 d5 d6 d7 : Option Bool) → Option ℤ → Option ℤ → Option Week
week_made a1 a2 a3 a4 a5 a6 a7 s e =
    option_and_then (λ ds. option_and_then (λ x. option_map (λ y. record { days = ds; start = x; end = y }) e) s)
    (option_and_then (λ d1. option_and_then (λ d2. option_and_then (λ d3. option_and_then (λ d4.
    option_and_then (λ d5. option_and_then (λ d6. option_map (λ d7. d1 ∷ d2 ∷ d3 ∷ d4 ∷ d5 ∷ d6 ∷ d7 ∷ []) a7) a6) a5) a4) a3) a2) a1)

week_chain : (a1 a2 a3 a4 a5 a6 a7 : Option ℕ) (s e : Option ℤ)
    → week_made (day_of a1) (day_of a2) (day_of a3) (day_of a4) (day_of a5) (day_of a6) (day_of a7) s e ≡ week_at_most a1 a2 a3 a4 a5 a6 a7 s e
week_chain None a2 a3 a4 a5 a6 a7 s e = refl
week_chain (Some n1) None a3 a4 a5 a6 a7 s e = refl
week_chain (Some n1) (Some n2) None a4 a5 a6 a7 s e = refl
week_chain (Some n1) (Some n2) (Some n3) None a5 a6 a7 s e = refl
week_chain (Some n1) (Some n2) (Some n3) (Some n4) None a6 a7 s e = refl
week_chain (Some n1) (Some n2) (Some n3) (Some n4) (Some n5) None a7 s e = refl
week_chain (Some n1) (Some n2) (Some n3) (Some n4) (Some n5) (Some n6) None s e = refl
week_chain (Some n1) (Some n2) (Some n3) (Some n4) (Some n5) (Some n6) (Some n7) None e = refl
week_chain (Some n1) (Some n2) (Some n3) (Some n4) (Some n5) (Some n6) (Some n7) (Some x) None = refl
week_chain (Some n1) (Some n2) (Some n3) (Some n4) (Some n5) (Some n6) (Some n7) (Some x) (Some y) =
    λ i. Some (record {
      days = sym (same_one n1) i ∷ sym (same_one n2) i ∷ sym (same_one n3) i ∷ sym (same_one n4) i ∷ sym (same_one n5) i
          ∷ sym (same_one n6) i ∷ sym (same_one n7) i ∷ [];
      start = x;
      end = y;
    })

-- every kept column but the id is readable
abbrev pub is_week_readable : Dataset → ℕ → Bool
is_week_readable d n =
    is_some (choice_01 (week_text d n "monday")) && (is_some (choice_01 (week_text d n "tuesday")) && (is_some (choice_01 (week_text d n "wednesday"))
    && (is_some (choice_01 (week_text d n "thursday")) && (is_some (choice_01 (week_text d n "friday")) && (is_some (choice_01 (week_text d n "saturday"))
    && (is_some (choice_01 (week_text d n "sunday")) && (is_some (result_ok (date_of (week_text d n "start_date")))
    && (is_some (result_ok (date_of (week_text d n "end_date"))) && true))))))))

second : (a b : Bool) → (a && b) ≡ true → b ≡ true
second true b e = e
second false b e = cc e

ends_of : (b1 b2 b3 b4 b5 b6 b7 s e : Bool) → (b1 && (b2 && (b3 && (b4 && (b5 && (b6 && (b7 && (s && (e && true))))))))) ≡ true → (s ≡ true) × (e ≡ true)
ends_of b1 b2 b3 b4 b5 b6 b7 s e h =
    let h1 = second b1 (b2 && (b3 && (b4 && (b5 && (b6 && (b7 && (s && (e && true)))))))) h in
    let h2 = second b2 (b3 && (b4 && (b5 && (b6 && (b7 && (s && (e && true))))))) h1 in
    let h3 = second b3 (b4 && (b5 && (b6 && (b7 && (s && (e && true)))))) h2 in
    let h4 = second b4 (b5 && (b6 && (b7 && (s && (e && true))))) h3 in
    let h5 = second b5 (b6 && (b7 && (s && (e && true)))) h4 in
    let h6 = second b6 (b7 && (s && (e && true))) h5 in
    let h7 = second b7 (s && (e && true)) h6 in
    ((and_parts s (e && true) h7).0, (and_parts e true (second s (e && true) h7)).0)

pub readable_days : (d : Dataset) (n : ℕ) → is_week_readable d n ≡ true
    → (is_some (result_ok (date_of (week_text d n "start_date"))) ≡ true) × (is_some (result_ok (date_of (week_text d n "end_date"))) ≡ true)
readable_days d n h = ends_of
    (is_some (choice_01 (week_text d n "monday")))
    (is_some (choice_01 (week_text d n "tuesday")))
    (is_some (choice_01 (week_text d n "wednesday")))
    (is_some (choice_01 (week_text d n "thursday")))
    (is_some (choice_01 (week_text d n "friday")))
    (is_some (choice_01 (week_text d n "saturday")))
    (is_some (choice_01 (week_text d n "sunday")))
    (is_some (result_ok (date_of (week_text d n "start_date")))) (is_some (result_ok (date_of (week_text d n "end_date")))) h

abbrev choice_is : (t : List ℕ) → is_some (readable (choice ((0, 1) ∷ [])) t) ≡ is_some (choice_01 t)
choice_is t = choice_some ((0, 1) ∷ []) t

pub week_readable : (d : Dataset) (n : ℕ) → list_all (λ c. is_some (value_in d file.Calendar n c.name)) (columns_of file.Calendar)
    ≡ (is_some (value_in d file.Calendar n (codes "service_id")) && is_week_readable d n)
week_readable d n = λ i. is_some (value_in d file.Calendar n (codes "service_id"))
    && (choice_is (week_text d n "monday") i && (choice_is (week_text d n "tuesday") i && (choice_is (week_text d n "wednesday") i
    && (choice_is (week_text d n "thursday") i && (choice_is (week_text d n "friday") i && (choice_is (week_text d n "saturday") i
    && (choice_is (week_text d n "sunday") i && (date_some (week_text d n "start_date") i && (date_some (week_text d n "end_date") i && true)))))))))

abbrev runs_is : (t : List ℕ) → runs (choice_01 t) ≡ int_eq (unwrap_or (option_and_then as_amount (readable (choice ((0, 1) ∷ [])) t)) (pos 0)) (pos 1)
runs_is t = ap (λ o. int_eq (unwrap_or o (pos 0)) (pos 1)) (sym (choice_amount ((0, 1) ∷ []) t))

abbrev pub day_is : (t : List ℕ) → unwrap_or (result_ok (date_of t)) (pos 0) ≡ unwrap_or (option_and_then as_amount (readable date t)) (pos 0)
day_is t = ap (λ o. unwrap_or o (pos 0)) (sym (date_amount t))

pub week_is : (d : Dataset) (n : ℕ) → week_in_texts d n ≡ (if is_week_readable d n then Some (week_in d n) else None)
week_is d n =
    week_chain (choice_01 (week_text d n "monday")) (choice_01 (week_text d n "tuesday")) (choice_01 (week_text d n "wednesday")) (choice_01 (week_text d n "thursday"))
    (choice_01 (week_text d n "friday")) (choice_01 (week_text d n "saturday")) (choice_01 (week_text d n "sunday"))
    (result_ok (date_of (week_text d n "start_date"))) (result_ok (date_of (week_text d n "end_date")))
    ∙ (λ i. if is_week_readable d n then Some (record {
      days = runs_is (week_text d n "monday") i ∷ runs_is (week_text d n "tuesday") i ∷ runs_is (week_text d n "wednesday") i ∷ runs_is (week_text d n "thursday") i
          ∷ runs_is (week_text d n "friday") i ∷ runs_is (week_text d n "saturday") i ∷ runs_is (week_text d n "sunday") i ∷ [];
      start = day_is (week_text d n "start_date") i;
      end = day_is (week_text d n "end_date") i;
    }) else None)

-- ---- a row of calendar_dates.txt

abbrev choice_12 : List ℕ → Option ℕ
choice_12 t = result_ok (one_of ((1, 2) ∷ []) (count_of t))

abbrev pub is_date_readable : Dataset → ℕ → Bool
is_date_readable d n = is_some (result_ok (date_of (date_text d n "date"))) && (is_some (choice_12 (date_text d n "exception_type")) && true)

pub date_readable : (d : Dataset) (n : ℕ) → list_all (λ c. is_some (value_in d file.CalendarDates n c.name)) (columns_of file.CalendarDates)
    ≡ (is_some (value_in d file.CalendarDates n (codes "service_id")) && is_date_readable d n)
date_readable d n = λ i. is_some (value_in d file.CalendarDates n (codes "service_id"))
    && (date_some (date_text d n "date") i && (choice_some ((1, 2) ∷ []) (date_text d n "exception_type") i && true))

abbrev exception_made : Option ℤ → Option ℕ → ℤ × Exception
exception_made x k = (unwrap_or x (pos 0), if int_eq (unwrap_or (option_map pos k) (pos 0)) (pos 1) then exception_type_of 1 else exception_type_of 2)

exception_chain : (x : Option ℤ) (k : Option ℕ) → option_and_then (λ y. option_map (λ n. (y, exception_type_of n)) k) x
    ≡ (if is_some x && (is_some k && true) then Some (exception_made x k) else None)
exception_chain None k = refl
exception_chain (Some x) None = refl
exception_chain (Some x) (Some n) = λ i. Some (x, if sym (same_one n) i then exception_type_of 1 else exception_type_of 2)

pub exception_is : (d : Dataset) (n : ℕ) → exception_in_texts d n ≡ (if is_date_readable d n then Some (exception_in d n) else None)
exception_is d n =
    exception_chain (result_ok (date_of (date_text d n "date"))) (choice_12 (date_text d n "exception_type"))
    ∙ (λ i. if is_date_readable d n then Some (
      day_is (date_text d n "date") i,
      if int_eq (unwrap_or (sym (choice_amount ((1, 2) ∷ []) (date_text d n "exception_type")) i) (pos 0)) (pos 1) then exception_type_of 1 else exception_type_of 2,
    ) else None)

-- A written content has none of the problems of files and headers: E01 to E05; and no week that ends before it starts: E14.
use Rattle.std.proofs.Common.{◌≡◌, ◌+◌, ◌<◌, ℕ, List, [], ◌∷◌, length, get_or, map, true, false, Bool, Option, Some, None, refl, sym, ap, ◌∙◌, arith, inl, inr}
use Rattle.std.specs.Prelude.{◌==◌, ◌&&◌, ◌||◌, not, bytes_eq, count_by, find, nat_lt, unwrap_or, is_some, ℤ, pos, int_le, int_lt}
use Rattle.std.specs.List.{Contains, list_all, range_with_len}
use Rattle.std.proofs.lemmas.Bool.{and_parts, and_left, and_right, or_from, cases_Bool, not-true, not_from_true, eqb-true}
use Rattle.std.proofs.lemmas.Bool.Decides.{nat_tests}
use Rattle.std.proofs.lemmas.List.Elements.{Contains-get_or}
use Rattle.std.proofs.lemmas.List.FromFn.{length-map-range_with_len}
use Rattle.std.proofs.lemmas.List.{map-id}
use Rattle.gtfs_field.proofs.NumberFacts.{suc-not_zero as not_none}
use Rattle.gtfs_days.specs.declared.week.Week.{Week}
use Rattle.gtfs_table.specs.Blanks.{cut, without_first_blanks}
use Rattle.gtfs_table.specs.Tables.{table_of, table_state}
use Rattle.gtfs_table.specs.declared.file.File.{File}
use Rattle.gtfs_table.specs.declared.file.File.TheVariants as file
use Rattle.gtfs_table.specs.Rows.{rows, has_no_record, records_in}
use Rattle.gtfs_schema.specs.Columns.{Column, columns_of, column_named}
use Rattle.gtfs_schema.specs.ColumnRules.{is_required, column_missing, column_twice}
use Rattle.gtfs_schema.specs.FileRules.{is_absent, is_needed, is_at, is_read, is_not_utf8_state, file_missing, not_utf8, file_empty}
use Rattle.gtfs_schema.specs.RowConditions.{is_file, header, is_named, times_named, amount_in}
use Rattle.gtfs_schema.specs.ServiceRules.{ends_before_start, end_before_start}
use Rattle.gtfs_schema.specs.FieldValues.{if_there, if_both}
use Rattle.gtfs_schema.proofs.NamedFacts.{kept_name_is}
use Rattle.gtfs_rows.specs.Content.{Content}
use Rattle.gtfs_rows.specs.RowCells.{agency_cells, week_cells, week_list, weeks_of}
use Rattle.gtfs_rows.specs.SoundContent.{IsSound, is_sound_service, is_sound_week, if_given}
use Rattle.gtfs_rows.specs.WrittenContent.{written_beside}
use Rattle.gtfs_rows.proofs.Held.{held_member}
use Rattle.gtfs_rows.proofs.ServicesAgain.{week_again}
use Rattle.gtfs_rows.proofs.TripCodes.{contained}
use Rattle.gtfs_rows.proofs.Views.{rows_are, no_told}

-- ---- columns, each once in the header

once : List Column → Bool
once cs = list_all (λ k. count_by (bytes_eq k.name) (map cut (map (λ c. c.name) cs)) == 1) cs

kept_once : (x : File) → once (columns_of x) ≡ true
unfolding once without_first_blanks
kept_once file.Agency = refl
kept_once file.Stops = refl
kept_once file.Routes = refl
kept_once file.Trips = refl
kept_once file.StopTimes = refl
kept_once file.Calendar = refl
kept_once file.CalendarDates = refl
kept_once file.Frequencies = refl
kept_once file.Transfers = refl

found_passes : {X : Type 0} (p q : X → Bool) (xs : List X) (x : X) → list_all p xs ≡ true → find q xs ≡ Some x → p x ≡ true
found_passes p q [] x all found = cc
found_passes p q (y ∷ xs) x all found =
    let parts = and_parts (p y) (list_all p xs) all in
    elim (cases_Bool (q y)) [
      | inl here ↦ let some : Some y ≡ Some x = rw here at found in let same : y ≡ x = cc in ap p (sym same) ∙ parts.0
      | inr other ↦ found_passes p q xs x parts.1 (rw other at found)
    ]

module _ (others : List (List ℕ)) (c : Content) where
  header_is : (x : File) → header (records_in (written_beside others c) x) ≡ map cut (map (λ k. k.name) (columns_of x))
  header_is file.Agency = refl
  header_is file.Stops = refl
  header_is file.Routes = refl
  header_is file.Trips = refl
  header_is file.StopTimes = refl
  header_is file.Calendar = refl
  header_is file.CalendarDates = refl
  header_is file.Frequencies = refl
  header_is file.Transfers = refl

  has_header : (x : File) → has_no_record (written_beside others c) x ≡ false
  has_header file.Agency = not_none _
  has_header file.Stops = not_none _
  has_header file.Routes = not_none _
  has_header file.Trips = not_none _
  has_header file.StopTimes = not_none _
  has_header file.Calendar = not_none _
  has_header file.CalendarDates = not_none _
  has_header file.Frequencies = not_none _
  has_header file.Transfers = not_none _

  named_once : (x : File) (name : List ℕ) (k : Column) → column_named x name ≡ Some k → times_named (written_beside others c) x name ≡ 1
  unfolding once
  named_once x name k found =
      let one = found_passes (λ j. count_by (bytes_eq j.name) (map cut (map (λ z. z.name) (columns_of x))) == 1) (λ j. bytes_eq j.name name) (columns_of x) k (kept_once x) found in
      ap (count_by (bytes_eq name)) (header_is x)
      ∙ ap (λ t. count_by (bytes_eq t) (map cut (map (λ z. z.name) (columns_of x)))) (sym (kept_name_is x name k found))
      ∙ eqb-true _ 1 one

  -- ---- E01

  there : (x : File) → is_absent (written_beside others c) x ≡ false
  there file.Agency = refl
  there file.Stops = refl
  there file.Routes = refl
  there file.Trips = refl
  there file.StopTimes = refl
  there file.Calendar = has_header file.Calendar
  there file.CalendarDates = has_header file.CalendarDates
  there file.Frequencies = has_header file.Frequencies
  there file.Transfers = has_header file.Transfers

  pub no_file_missing : (x : File) (n : ℕ) (name : List ℕ) → file_missing (written_beside others c) x n name ≡ false
  no_file_missing x n name =
      and_right (is_at 0 n name) _ (or_from (is_needed x && is_absent (written_beside others c) x) (is_file x file.Calendar && is_absent (written_beside others c) file.Calendar && is_absent (written_beside others c) file.CalendarDates)
      (and_right (is_needed x) (is_absent (written_beside others c) x) (there x))
      (and_right (is_file x file.Calendar && is_absent (written_beside others c) file.Calendar) (is_absent (written_beside others c) file.CalendarDates) (there file.CalendarDates)))

  -- ---- E02

  utf8 : (x : File) → is_not_utf8_state (table_state (table_of (written_beside others c) x)) ≡ false
  utf8 file.Agency = refl
  utf8 file.Stops = refl
  utf8 file.Routes = refl
  utf8 file.Trips = refl
  utf8 file.StopTimes = refl
  utf8 file.Calendar = refl
  utf8 file.CalendarDates = refl
  utf8 file.Frequencies = refl
  utf8 file.Transfers = refl

  pub no_not_utf8 : (x : File) (n : ℕ) (name : List ℕ) → not_utf8 (written_beside others c) x n name ≡ false
  no_not_utf8 x n name = and_right (is_at 0 n name) _ (utf8 x)

  -- ---- E03 and E04

  pub no_column_missing : (x : File) (n : ℕ) (name : List ℕ) → column_missing (written_beside others c) x n name ≡ false
  no_column_missing x n name = at_column (column_named x name) refl
    where
      at_column : (o : Option Column) → column_named x name ≡ o → ((n == 1) && not (has_no_record (written_beside others c) x) && if_there o is_required && not (is_named (written_beside others c) x name)) ≡ false
      at_column None found = and_left ((n == 1) && not (has_no_record (written_beside others c) x) && false) (not (is_named (written_beside others c) x name)) (and_right ((n == 1) && not (has_no_record (written_beside others c) x)) false refl)
      at_column (Some k) found =
          let named : is_named (written_beside others c) x name ≡ true = ap (nat_lt 0) (named_once x name k found) in
          and_right ((n == 1) && not (has_no_record (written_beside others c) x) && is_required k) (not (is_named (written_beside others c) x name)) (not_from_true (is_named (written_beside others c) x name) named)

  pub no_column_twice : (x : File) (n : ℕ) (name : List ℕ) → column_twice (written_beside others c) x n name ≡ false
  no_column_twice x n name = at_column (column_named x name) refl
    where
      at_column : (o : Option Column) → column_named x name ≡ o → ((n == 1) && is_some o && nat_lt 1 (times_named (written_beside others c) x name)) ≡ false
      at_column None found = and_left ((n == 1) && false) (nat_lt 1 (times_named (written_beside others c) x name)) (and_right (n == 1) false refl)
      at_column (Some k) found = and_right ((n == 1) && true) (nat_lt 1 (times_named (written_beside others c) x name)) (ap (nat_lt 1) (named_once x name k found))

  module _ (sound : IsSound c) where
    -- ---- E05

    some_agency : (length (rows (written_beside others c) file.Agency) == 0) ≡ false
    some_agency =
        let size : length (rows (written_beside others c) file.Agency) ≡ length c.agencies =
        ap length (rows_are others c file.Agency c.agencies agency_cells refl (sound.cells file.Agency)) ∙ ap length (sym (map-id (range_with_len 2 (length c.agencies)))) ∙ length-map-range_with_len (λ n. n) 2 (length c.agencies) in
        ap (λ n. n == 0) size ∙ not-true (length c.agencies == 0) sound.has_agency

    empty_agency : (x : File) → (is_file x file.Agency && not (has_no_record (written_beside others c) x) && (length (rows (written_beside others c) x) == 0)) ≡ false
    empty_agency file.Agency = and_right (is_file file.Agency file.Agency && not (has_no_record (written_beside others c) file.Agency)) _ some_agency
    empty_agency file.Stops = refl
    empty_agency file.Routes = refl
    empty_agency file.Trips = refl
    empty_agency file.StopTimes = refl
    empty_agency file.Calendar = refl
    empty_agency file.CalendarDates = refl
    empty_agency file.Frequencies = refl
    empty_agency file.Transfers = refl

    last_test : (a b d e : Bool) → (b && d && e) ≡ false → (a && b && d && e) ≡ false
    last_test true b d e h = h
    last_test false b d e h = refl

    pub no_file_empty : (x : File) (n : ℕ) (name : List ℕ) → file_empty (written_beside others c) x n name ≡ false
    no_file_empty x n name =
        and_right (is_needed x && is_read (written_beside others c) x) _ (or_from (is_at 0 n name && has_no_record (written_beside others c) x) _
        (and_right (is_at 0 n name) (has_no_record (written_beside others c) x) (has_header x))
        (last_test (is_at 1 n name) (is_file x file.Agency) (not (has_no_record (written_beside others c) x)) (length (rows (written_beside others c) x) == 0) (empty_agency x)))

    -- ---- E14

    week_in_order : (k : ℕ) (e : List ℕ × Week) → k < length (weeks_of c) → int_le (get_or (weeks_of c) k e).1.start (get_or (weeks_of c) k e).1.end ≡ true
    week_in_order k e h =
        let p = get_or (weeks_of c) k e in
        let held = held_member (λ s. s.service_id) (λ s. week_list s.service.week) c.services p (Contains-get_or (weeks_of c) k e h) in
        let fine = contained is_sound_service c.services held.row sound.services held.there in
        in_list held.row.service.week p.1 (and_parts (is_some held.row.service.week || not (length held.row.service.exceptions == 0)) (if_given held.row.service.week is_sound_week) fine).1 held.has_it
      where
        in_list : (o : Option Week) (w : Week) → if_given o is_sound_week ≡ true → Contains (week_list o) w → int_le w.start w.end ≡ true
        in_list None w fine at = absurd (let h = at.1 in omega arith)
        in_list (Some v) w fine at = contained is_sound_week (v ∷ []) w (all_one (is_sound_week v) fine) at
          where
            all_one : (b : Bool) → b ≡ true → (b && true) ≡ true
            all_one b h = rw h refl

    not_less : (a b : ℤ) → int_le a b ≡ true → int_lt b a ≡ false
    not_less a b h = grind (arith, nat_tests)

    both_days : (o p : Option ℤ) (a b : ℤ) → unwrap_or o (pos 0) ≡ b → unwrap_or p (pos 0) ≡ a → int_lt b a ≡ false → if_both o p int_lt ≡ false
    both_days None p a b e f h = refl
    both_days (Some x) None a b e f h = refl
    both_days (Some x) (Some y) a b e f h = (λ i. int_lt (e i) (f i)) ∙ h

    no_early_end : (k : ℕ) (e : List ℕ × Week) → k < length (weeks_of c) → ends_before_start (written_beside others c) (k + 2) ≡ false
    no_early_end k e h =
        let w = (get_or (weeks_of c) k e).1 in
        both_days (amount_in (written_beside others c) file.Calendar (k + 2) "end_date") (amount_in (written_beside others c) file.Calendar (k + 2) "start_date") w.start w.end
        (ap (λ v. v.end) (week_again others c sound k e h)) (ap (λ v. v.start) (week_again others c sound k e h)) (not_less w.start w.end (week_in_order k e h))

    pub no_end_before_start : (y : File) (n : ℕ) (name : List ℕ) → end_before_start (written_beside others c) y n name ≡ false
    no_end_before_start = no_told others c file.Calendar (weeks_of c) week_cells refl (sound.cells file.Calendar) "end_date" ends_before_start no_early_end

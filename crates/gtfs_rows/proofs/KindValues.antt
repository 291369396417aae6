-- A value that a text is read as lies in its kind.
use Rattle.std.proofs.Common.{◌≡◌, ◌+◌, ◌*◌, ◌^◌, ◌<◌, ◌≤◌, ℕ, zero, suc, List, length, take, drop, true, false, Bool, Some, Result, Ok, Err, refl, sym, ap, subst, arith, inl, inr}
use Rattle.std.specs.Prelude.{◌==◌, ◌&&◌, not, nat_le, nat_lt, if◌then◌else◌, slice_index, ℤ, pos, negsuc, neg_ℤ, int_le, unsigned_abs, ◌≤ℤ◌}
use Rattle.std.specs.List.{before_first, after_first}
use Rattle.std.specs.Result.{result_ok}
use Rattle.std.specs.Str.{all_ascii_digits}
use Rattle.std.proofs.lemmas.Bool.{and_parts, and_from, cases_Bool, not-true, le-leb, leb-true, ltb-true}
use Rattle.std.proofs.lemmas.Bool.Decides.{nat_tests}
use Rattle.std.proofs.lemmas.Int.Digits.{digits_value-lt}
use Rattle.jiff_core.specs.Calendar.{days_in_month, days_from_civil}
use Rattle.jiff_core.specs.declared.civil.date.Date.{Date}
use Rattle.jiff_core.proofs.DateLemmas.{epoch_day_range}
use Rattle.jiff_core.proofs.SignedLemmas.{signed_arith}
use Rattle.gtfs_field.specs.declared.coord.Axis.{Axis}
use Rattle.gtfs_field.specs.declared.fault.FieldFault.{FieldFault}
use Rattle.gtfs_field.specs.Digits.{is_number, number, is_wide}
use Rattle.gtfs_field.specs.Kinds.{shaped, within, is_in_ranges, is_colon, is_sixtieth, has_time_shape, is_calendar_day, is_six_hexadecimal, is_minus, has_coordinate_shape, unsigned_part, magnitude, most_degrees, count_of, time_of, time_from, day_at, date_of, colour_of, coordinate_of}
use Rattle.gtfs_field.proofs.Colours.{six_hexadecimal}
use Rattle.gtfs_field.proofs.Dates.{day_number-low}
use Rattle.gtfs_field.proofs.Numerals.{numerals}
use Rattle.gtfs_table.specs.Rows.{is_empty}
use Rattle.gtfs_schema.specs.Columns.{Kind, id, text, count, choice, time, date, colour, coordinate}
use Rattle.gtfs_schema.specs.FieldValues.{Value, word, amount, read_as, readable, has_control, plain, value_of_count, measured, one_of}
use Rattle.gtfs_rows.specs.Cells.{is_between, is_of_kind}
use Rattle.gtfs_rows.proofs.CutTexts.{IsCut, id_filled, text_filled}

-- ---- results

-- the text is not empty and reads as the value
record IsRead (k : Kind) (t : List ℕ) (v : Value) : Type 0 where
  filled : is_empty t ≡ false
  read : read_as k t ≡ Ok v

ok_from : {V : Type 0} (r : Result V FieldFault) (v : V) → result_ok r ≡ Some v → r ≡ Ok v
ok_from (Ok w) v e = cc
ok_from (Err f) v e = cc

is_read : (k : Kind) (t : List ℕ) (v : Value) → readable k t ≡ Some v → IsRead k t v
is_read k t v e = elim (cases_Bool (is_empty t)) [
  | inl none ↦ cc (rw none at e)
  | inr there ↦ record { filled = there; read = ok_from (read_as k t) v (rw there at e) }
]

record IsShaped {V : Type 0} (b : Bool) (r : Result V FieldFault) (v : V) : Type 0 where
  shape : b ≡ true
  inner : r ≡ Ok v

shaped_ok : {V : Type 0} (b : Bool) (r : Result V FieldFault) (v : V) → shaped b r ≡ Ok v → IsShaped b r v
shaped_ok true r v e = record { shape = refl; inner = e }
shaped_ok false r v e = cc

record IsWithin {V : Type 0} (b : Bool) (x v : V) : Type 0 where
  inside : b ≡ true
  same : x ≡ v

within_ok : {V : Type 0} (b : Bool) (x v : V) → within b x ≡ Ok v → IsWithin b x v
within_ok true x v e = record { inside = refl; same = cc }
within_ok false x v e = cc

ok_same : {V : Type 0} (x v : V) → (let r : Result V FieldFault = Ok x in r) ≡ Ok v → x ≡ v
ok_same x v e = cc

-- a count behind a value
record IsCounted (r : Result ℕ FieldFault) (v : Value) : Type 0 where
  value : ℕ
  read : r ≡ Ok value
  same : amount (pos value) ≡ v

counted_ok : (r : Result ℕ FieldFault) (v : Value) → value_of_count r ≡ Ok v → IsCounted r v
counted_ok (Ok n) v e = record { value = n; read = refl; same = ok_same (amount (pos n)) v e }
counted_ok (Err f) v e = cc

record IsMeasured (r : Result ℤ FieldFault) (v : Value) : Type 0 where
  value : ℤ
  read : r ≡ Ok value
  same : amount value ≡ v

measured_ok : (r : Result ℤ FieldFault) (v : Value) → measured r ≡ Ok v → IsMeasured r v
measured_ok (Ok x) v e = record { value = x; read = refl; same = ok_same (amount x) v e }
measured_ok (Err f) v e = cc

-- ---- bounds

up_to_high : (high n : ℕ) → n ≤ high → is_between (pos 0) (pos high) (pos n) ≡ true
up_to_high high n most = and_from (nat_le 0 n) (nat_le n high) (le-leb 0 n (omega arith)) (le-leb n high most)

count_bound : (t : List ℕ) (n : ℕ) → count_of t ≡ Ok n → n ≤ 2_147_483_647
count_bound t n e =
    let shape = shaped_ok (is_number t) (within (nat_le (number t) 2_147_483_647) (number t)) n e in
    let inside = within_ok (nat_le (number t) 2_147_483_647) (number t) n shape.inner in
    subst (λ m. m ≤ 2_147_483_647) inside.same (leb-true (number t) 2_147_483_647 inside.inside)

chosen_is : (ranges : List (ℕ × ℕ)) (r : Result ℕ FieldFault) (n : ℕ) → one_of ranges r ≡ Ok n → (r ≡ Ok n) × (is_in_ranges ranges n ≡ true)
chosen_is ranges (Ok m) n e =
    let inside = within_ok (is_in_ranges ranges m) m n e in
    (ap (λ k. Ok k) inside.same, subst (λ k. is_in_ranges ranges k ≡ true) inside.same inside.inside)
chosen_is ranges (Err f) n e = cc

three_digits : (n m : ℕ) → n ≤ 3 → m < 10 ^ n → m < 1000
three_digits zero m few below = omega (arith, below)
three_digits (suc zero) m few below = omega (arith, below)
three_digits (suc (suc zero)) m few below = omega (arith, below)
three_digits (suc (suc (suc zero))) m few below = omega (arith, below)
three_digits (suc (suc (suc (suc n)))) m few below = absurd (omega (arith, few))

few_hours : (hours : List ℕ) → is_number hours ≡ true → nat_le (length hours) 3 ≡ true → number hours < 1000
few_hours hours digits few =
    let all = and_parts (not (length hours == 0)) (all_ascii_digits hours) digits in
    three_digits (length hours) (number hours) (leb-true (length hours) 3 few) (digits_value-lt 10 hours (numerals.to hours all.1))

pub time_bound : (hours rest : List ℕ) (n : ℕ) → time_from hours rest ≡ Ok n → n ≤ 3_599_999
time_bound hours rest n e =
    let value = 3600 * number hours + 60 * number (take 2 rest) + number (drop 3 rest) in
    let shape = shaped_ok (has_time_shape hours rest) (Ok value) n e in
    let last = and_parts (is_number hours && nat_le (length hours) 3 && (length rest == 5) && is_colon (slice_index rest 2) && is_sixtieth (take 2 rest)) (is_sixtieth (drop 3 rest)) shape.shape in
    let middle = and_parts (is_number hours && nat_le (length hours) 3 && (length rest == 5) && is_colon (slice_index rest 2)) (is_sixtieth (take 2 rest)) last.0 in
    let colon = and_parts (is_number hours && nat_le (length hours) 3 && (length rest == 5)) (is_colon (slice_index rest 2)) middle.0 in
    let five = and_parts (is_number hours && nat_le (length hours) 3) (length rest == 5) colon.0 in
    let front = and_parts (is_number hours) (nat_le (length hours) 3) five.0 in
    let first = few_hours hours front.0 front.1 in
    let minutes = ltb-true (number (take 2 rest)) 60 (and_parts (is_wide 2 (take 2 rest)) (nat_lt (number (take 2 rest)) 60) middle.1).1 in
    let seconds = ltb-true (number (drop 3 rest)) 60 (and_parts (is_wide 2 (drop 3 rest)) (nat_lt (number (drop 3 rest)) 60) last.1).1 in
    let same : value ≡ n = ok_same value n shape.inner in
    most (number hours) (number (take 2 rest)) (number (drop 3 rest)) n first minutes seconds same
  where
    most : (h m s n : ℕ) → h < 1000 → m < 60 → s < 60 → 3600 * h + 60 * m + s ≡ n → n ≤ 3_599_999
    most h m s n first minutes seconds same = omega arith

-- a day of the calendar as `jiff` has it
calendar_day : (y m d : ℕ) → is_calendar_day y m d ≡ true → (negsuc 25_566 ≤ℤ days_from_civil (pos y) m d) × (days_from_civil (pos y) m d ≤ℤ pos 2_932_896)
calendar_day y m d is =
    let a = and_parts (nat_le 1900 y && nat_le y 9999 && nat_le 1 m && nat_le m 12 && nat_le 1 d) (nat_le d (days_in_month (pos y) m)) is in
    let b = and_parts (nat_le 1900 y && nat_le y 9999 && nat_le 1 m && nat_le m 12) (nat_le 1 d) a.0 in
    let c = and_parts (nat_le 1900 y && nat_le y 9999 && nat_le 1 m) (nat_le m 12) b.0 in
    let e = and_parts (nat_le 1900 y && nat_le y 9999) (nat_le 1 m) c.0 in
    let f = and_parts (nat_le 1900 y) (nat_le y 9999) e.0 in
    let from : 1900 ≤ y = leb-true 1900 y f.0 in
    let to : y ≤ 9999 = leb-true y 9999 f.1 in
    let day : Date = record {
      year = pos y;
      month = m;
      day = d;
      year_in = (omega (arith, signed_arith, from), omega (arith, signed_arith, to));
      month_in = (leb-true 1 m e.1, leb-true m 12 c.1);
      day_in = (leb-true 1 d b.1, leb-true d (days_in_month (pos y) m) a.1);
    } in
    (day_number-low day (omega (arith, signed_arith, from)), (epoch_day_range day).1)

date_bound : (t : List ℕ) (x : ℤ) → date_of t ≡ Ok x → is_between (negsuc 25_566) (pos 2_932_896) x ≡ true
date_bound t x e =
    let y = number (take 4 t) in
    let m = number (take 2 (drop 4 t)) in
    let d = number (drop 6 t) in
    let shape = shaped_ok (is_wide 8 t) (day_at y m d) x e in
    let inside = within_ok (is_calendar_day y m d) (days_from_civil (pos y) m d) x shape.inner in
    let bounds = calendar_day y m d inside.inside in
    tests x (subst (λ z. negsuc 25_566 ≤ℤ z) inside.same bounds.0) (subst (λ z. z ≤ℤ pos 2_932_896) inside.same bounds.1)
  where
    tests : (x : ℤ) → negsuc 25_566 ≤ℤ x → x ≤ℤ pos 2_932_896 → is_between (negsuc 25_566) (pos 2_932_896) x ≡ true
    tests x low high = and_from (int_le (negsuc 25_566) x) (int_le x (pos 2_932_896)) (grind (arith, nat_tests)) (grind (arith, nat_tests))

colour_bound : (t : List ℕ) (n : ℕ) → colour_of t ≡ Ok n → n ≤ 16_777_215
colour_bound t n e =
    let shape = shaped_ok (is_six_hexadecimal t) _ n e in
    let below = (six_hexadecimal t shape.shape).below in
    let same = ok_same _ n shape.inner in
    omega (arith, below, same)

magnitude_of : (b : Bool) (m : ℕ) (x : ℤ) → (if b then neg_ℤ (pos m) else pos m) ≡ x → unsigned_abs x ≡ m
magnitude_of true zero x e = ap unsigned_abs (sym e)
magnitude_of true (suc m) x e = ap unsigned_abs (sym e)
magnitude_of false m x e = ap unsigned_abs (sym e)

coordinate_bound : (axis : Axis) (t : List ℕ) (x : ℤ) → coordinate_of axis t ≡ Ok x → nat_le (unsigned_abs x) (most_degrees axis * 10 ^ 9) ≡ true
coordinate_bound axis t x e =
    let m = magnitude (unsigned_part t) in
    let signed = if is_minus (slice_index t 0) then neg_ℤ (pos m) else pos m in
    let shape = shaped_ok (has_coordinate_shape (unsigned_part t)) (within (nat_le m (most_degrees axis * 10 ^ 9)) signed) x e in
    let inside = within_ok (nat_le m (most_degrees axis * 10 ^ 9)) signed x shape.inner in
    subst (λ k. nat_le k (most_degrees axis * 10 ^ 9) ≡ true) (sym (magnitude_of (is_minus (slice_index t 0)) m x inside.same)) inside.inside

-- ---- each kind

pub value_of_kind : (k : Kind) (t : List ℕ) (v : Value) → IsCut t → readable k t ≡ Some v → is_of_kind k v ≡ true
value_of_kind id t v cut e =
    let is = is_read id t v e in
    let shape = shaped_ok (not (has_control t)) (Ok (word t)) v is.read in
    subst (λ w. is_of_kind id w ≡ true) (ok_same (word t) v shape.inner) (id_filled t cut (not-true (has_control t) shape.shape) is.filled)
value_of_kind text t v cut e =
    let is = is_read text t v e in
    subst (λ w. is_of_kind text w ≡ true) (ok_same (word (plain t)) v is.read) (text_filled t cut is.filled)
value_of_kind count t v cut e =
    let n = counted_ok (count_of t) v (is_read count t v e).read in
    subst (λ w. is_of_kind count w ≡ true) n.same (up_to_high 2_147_483_647 n.value (count_bound t n.value n.read))
value_of_kind (choice ranges) t v cut e =
    let n = counted_ok (one_of ranges (count_of t)) v (is_read (choice ranges) t v e).read in
    let is = chosen_is ranges (count_of t) n.value n.read in
    subst (λ w. is_of_kind (choice ranges) w ≡ true) n.same
    (and_from _ _ (up_to_high 2_147_483_647 n.value (count_bound t n.value is.0)) is.1)
value_of_kind time t v cut e =
    let n = counted_ok (time_of t) v (is_read time t v e).read in
    subst (λ w. is_of_kind time w ≡ true) n.same (up_to_high 3_599_999 n.value (time_bound (before_first is_colon t) (after_first is_colon t) n.value n.read))
value_of_kind date t v cut e =
    let x = measured_ok (date_of t) v (is_read date t v e).read in
    subst (λ w. is_of_kind date w ≡ true) x.same (date_bound t x.value x.read)
value_of_kind colour t v cut e =
    let n = counted_ok (colour_of t) v (is_read colour t v e).read in
    subst (λ w. is_of_kind colour w ≡ true) n.same (up_to_high 16_777_215 n.value (colour_bound t n.value n.read))
value_of_kind (coordinate axis) t v cut e =
    let x = measured_ok (coordinate_of axis t) v (is_read (coordinate axis) t v e).read in
    subst (λ w. is_of_kind (coordinate axis) w ≡ true) x.same (coordinate_bound axis t x.value x.read)

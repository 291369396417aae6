-- Dates of eight digits, and the calendar's days in numbers.
use Rattle.std.proofs.Common.{subst, ℤ, unsigned_abs, ◌-ℤ◌, ◌++◌, ◌≡◌, ◌≢◌, ℕ, ◌+◌, ◌-◌, ◌*◌, ◌/◌, ◌%◌, ◌^◌, ◌<◌, ◌≤◌, ◌==◌, not, true, false, Option, Some, None, Ok, Err, if◌then◌else◌, List, [], ◌∷◌, length, take, drop, min, arith, refl, sym, ap, ◌∙◌, pos, negsuc, ◌≤ℤ◌, inl, inr}
use Rattle.std.specs.Str.{all_ascii_digits, IsAscii}
use Rattle.std.proofs.lemmas.Bool.{and_left, and_right, and_from, and_cases, and_parts, le-leb}
use Rattle.std.proofs.lemmas.Bool.Decides.{nat_tests}
use Rattle.std.specs.Char.{digit_value}
use Rattle.jiff_core.specs.Calendar.{days_in_month}
use Rattle.jiff_core.specs.Date.{epoch_day}
use Rattle.jiff_core.specs.declared.civil.date.Date.{Date}
use Rattle.jiff_core.proofs.DateLemmas.{cases_date, epoch_day-lt, epoch_day_same, epoch_day_injective, epoch_day_range}
use Rattle.jiff_core.proofs.CalendarLemmas.{days_in_month_bounds}
use Rattle.jiff_core.proofs.SignedLemmas.{signed_arith}
use Rattle.gtfs_field.specs.Digits.{is_number, number, is_wide, wide}
use Rattle.gtfs_field.specs.Kinds.{date_of, day_at, is_calendar_day}
use Rattle.gtfs_field.specs.Canonical.{date_text, digits_of_date}
use Rattle.gtfs_field.proofs.Wides.{wide-digits, number-wide}
use Rattle.gtfs_field.specs.Calendar.{first_date, first_date-number, date_of_day, date_after-number}
use Rattle.gtfs_field.specs.declared.fault.FieldFault.TheVariants.{Form}
use Rattle.gtfs_field.proofs.Numerals.{numerals, digits-append, digits-ascii}
use Rattle.gtfs_field.proofs.Choices.{test-some, test-none, shaped-true, shaped-false, within-true, same-value}
use Rattle.gtfs_field.proofs.NumberFacts.{abs-pos}

-- the parts of eight digits
pub record HasParts (n y m d : ℕ) : Type 0 where
  pub year : y ≡ n / 10_000
  pub month : m ≡ n / 100 % 100
  pub day : d ≡ n % 100
  pub below : n < 10 ^ 8

parts : (a b c d e f g h : ℕ) → a < 10 → b < 10 → c < 10 → d < 10 → e < 10 → f < 10 → g < 10 → h < 10
    → HasParts ((((((((0 + a) * 10 + b) * 10 + c) * 10 + d) * 10 + e) * 10 + f) * 10 + g) * 10 + h) ((((0 + a) * 10 + b) * 10 + c) * 10 + d) ((0 + e) * 10 + f) ((0 + g) * 10 + h)
parts a b c d e f g h pa pb pc pd pe pf pg ph = record {
  year = omega arith;
  month = omega arith;
  day = omega arith;
  below = omega arith;
}

pub eight_digits : (t : List ℕ) → length t ≡ 8 → all_ascii_digits t ≡ true → HasParts (number t) (number (take 4 t)) (number (take 2 (drop 4 t))) (number (drop 6 t))
eight_digits (a ∷ b ∷ c ∷ d ∷ e ∷ f ∷ g ∷ h ∷ []) eight digits =
    let each = numerals.to (a ∷ b ∷ c ∷ d ∷ e ∷ f ∷ g ∷ h ∷ []) digits in
    parts (digit_value a) (digit_value b) (digit_value c) (digit_value d) (digit_value e) (digit_value f) (digit_value g) (digit_value h)
    each.0 each.1.0 each.1.1.0 each.1.1.1.0 each.1.1.1.1.0 each.1.1.1.1.1.0 each.1.1.1.1.1.1.0 each.1.1.1.1.1.1.1.0
eight_digits t eight digits = absurd (omega arith)

-- what `number_of` answers
abbrev pub number_at : List ℕ → Option ℕ
number_at t = if is_number t then Some (min (number t) (2 ^ 64 - 1)) else None

length-not : (n : ℕ) → n ≢ 8 → (n == 8) ≡ false
length-not n other = grind (arith, nat_tests)

pub date_of-eight : (t : List ℕ) (n : ℕ) → length t ≡ 8 → Some n ≡ number_at t → day_at (n / 10_000) (n / 100 % 100) (n % 100) ≡ date_of t
date_of-eight t n eight there =
    let given = test-some (is_number t) n (min (number t) (2 ^ 64 - 1)) there in
    let digits : all_ascii_digits t ≡ true = (and_parts (not (length t == 0)) (all_ascii_digits t) given.0).1 in
    let split : HasParts (number t) (number (take 4 t)) (number (take 2 (drop 4 t))) (number (drop 6 t)) = eight_digits t eight digits in
    let same : n ≡ number t = omega (arith, given.1, split.below) in
    let wide : is_wide 8 t ≡ true = and_from _ _ (rw eight refl) digits in
    rw (same, ← split.year, ← split.month, ← split.day) (sym (shaped-true _ _ wide))

pub date_of-length : (t : List ℕ) → length t ≢ 8 → Err Form ≡ date_of t
date_of-length t other = sym (shaped-false _ _ (and_left _ _ (length-not (length t) other)))

not-empty : (n : ℕ) → not (n == 0) ≡ false → n ≢ 8
not-empty n empty eight = grind (arith, nat_tests)

pub date_of-none : (t : List ℕ) → None ≡ number_at t → Err Form ≡ date_of t
date_of-none t none = elim (and_cases (not (length t == 0)) (all_ascii_digits t) (test-none _ _ none)) [
  | inl empty ↦ date_of-length t (not-empty (length t) empty)
  | inr other ↦ sym (shaped-false _ _ (and_right _ _ other))
]

-- no date of the years from 1900 on lies before the first
pub day_number-low : (d : Date) → pos 1900 ≤ℤ d.year → negsuc 25_566 ≤ℤ epoch_day d
day_number-low d year = elim (cases_date first_date d) [
  | inl later ↦ omega (arith, signed_arith, epoch_day-lt first_date d later, first_date-number)
  | inr (inl earlier) ↦ elim earlier [
    | inl before ↦ absurd (omega (arith, signed_arith))
    | inr (same, inl month) ↦ absurd (omega (arith, d.month_in))
    | inr (same, inr day) ↦ absurd (omega (arith, d.day_in))
  ]
  | inr (inr same) ↦ omega (arith, signed_arith, epoch_day_same first_date d same.0 same.1 same.2, first_date-number)
]

is_calendar-date : (d : Date) (y m n : ℕ) → d.year ≡ pos y → d.month ≡ m → d.day ≡ n → 1900 ≤ y → is_calendar_day y m n ≡ true
is_calendar-date d y m n year month day from =
    let most : y ≤ 9999 = omega (arith, signed_arith, d.year_in) in
    let here : n ≤ days_in_month d.year m = rw (← day, ← month) d.day_in.1 in
    let P : ℤ → Type 0 = λ z. n ≤ days_in_month z m in
    let last : n ≤ days_in_month (pos y) m = subst P year here in
    and_from _ _ (and_from _ _ (and_from _ _ (and_from _ _ (and_from _ _ (le-leb _ _ from) (le-leb _ _ most))
    (le-leb _ _ (omega (arith, d.month_in)))) (le-leb _ _ (omega (arith, d.month_in)))) (le-leb _ _ (omega (arith, d.day_in)))) (le-leb _ _ last)

-- the number of a date that the calendar has
pub day_at-date : (d : Date) (y m n : ℕ) → d.year ≡ pos y → pos d.month ≡ pos m → pos d.day ≡ pos n → 1900 ≤ y → Ok (epoch_day d) ≡ day_at y m n
day_at-date d y m n year month day from =
    let at_month : d.month ≡ m = omega (arith, signed_arith) in
    let at_day : d.day ≡ n = omega (arith, signed_arith) in
    rw (year, at_month, at_day) (sym (within-true _ _ (is_calendar-date d y m n year at_month at_day from)))

-- and a date whose number is not before the first is of those years
pub year-from : (d : Date) → negsuc 25_566 ≤ℤ epoch_day d → pos 1900 ≤ℤ d.year
year-from d from = elim (cases_date first_date d) [
  | inl later ↦ elim later [ inl year ↦ omega (arith, signed_arith) | inr (same, rest) ↦ omega (arith, signed_arith) ]
  | inr (inl earlier) ↦ absurd (omega (arith, signed_arith, epoch_day-lt d first_date earlier, first_date-number))
  | inr (inr same) ↦ omega (arith, signed_arith, same.0)
]

-- the number of the date of a number
pub day_number-date : (n : ℤ) → negsuc 25_566 ≤ℤ n → n ≤ℤ pos 2_932_896 → epoch_day (date_of_day n) ≡ n
day_number-date n low high =
    let k = unsigned_abs (n -ℤ negsuc 25_566) in
    let size : pos k ≡ n -ℤ negsuc 25_566 = abs-pos (n -ℤ negsuc 25_566) (omega (arith, signed_arith)) in
    date_after-number k (omega (arith, signed_arith, size)) ∙ omega (arith, signed_arith, size)

-- one number, one text
pub date_text-same : (d : Date) (n : ℤ) → pos 1900 ≤ℤ d.year → epoch_day d ≡ n → digits_of_date d ≡ date_text n
date_text-same d n from number =
    let low : negsuc 25_566 ≤ℤ n = rw (← number) (day_number-low d from) in
    let high : n ≤ℤ pos 2_932_896 = rw (← number) (epoch_day_range d).1 in
    let same = epoch_day_injective d (date_of_day n) (number ∙ sym (day_number-date n low high)) in
    rw (same.0, same.1, same.2) refl

date-digits : (y m d : ℕ) → all_ascii_digits (wide 4 y ++ wide 2 m ++ wide 2 d) ≡ true
date-digits y m d = digits-append (wide 4 y ++ wide 2 m) (wide 2 d) (digits-append (wide 4 y) (wide 2 m) (wide-digits 4 y) (wide-digits 2 m)) (wide-digits 2 d)

pub date-ascii : (d : Date) → IsAscii (digits_of_date d)
date-ascii d = digits-ascii (digits_of_date d) (date-digits (unsigned_abs d.year) d.month d.day)

read-digits : (y m d : ℕ) → y < 10_000 → m < 100 → d < 100 → date_of (wide 4 y ++ wide 2 m ++ wide 2 d) ≡ day_at y m d
read-digits y m d year month day =
    let shape : is_wide 8 (wide 4 y ++ wide 2 m ++ wide 2 d) ≡ true = and_from true _ refl (date-digits y m d) in
    let at_year : number (wide 4 y) ≡ y = number-wide 4 y year in
    let at_month : number (wide 2 m) ≡ m = number-wide 2 m month in
    let at_day : number (wide 2 d) ≡ d = number-wide 2 d day in
    let parts : day_at (number (wide 4 y)) (number (wide 2 m)) (number (wide 2 d)) ≡ day_at y m d = rw (at_year, at_month, at_day) refl in
    shaped-true _ _ shape ∙ parts

-- a date reads back
pub date_of-digits : (d : Date) → pos 1900 ≤ℤ d.year → date_of (digits_of_date d) ≡ Ok (epoch_day d)
date_of-digits d from =
    let y = unsigned_abs d.year in
    let size : pos y ≡ d.year = abs-pos d.year (omega (arith, signed_arith)) in
    let year : d.year ≡ pos y = sym size in
    let few : d.day < 100 = omega (arith, d.day_in, (days_in_month_bounds d.year d.month).0) in
    read-digits y d.month d.day (omega (arith, signed_arith, size, d.year_in)) (omega (arith, d.month_in)) few
    ∙ sym (day_at-date d y d.month d.day year refl refl (omega (arith, signed_arith, size)))

pub date_of-text : (n : ℤ) → negsuc 25_566 ≤ℤ n → n ≤ℤ pos 2_932_896 → date_of (date_text n) ≡ Ok n
date_of-text n low high =
    let number = day_number-date n low high in
    let from : pos 1900 ≤ℤ (date_of_day n).year = year-from (date_of_day n) (rw number low) in
    date_of-digits (date_of_day n) from ∙ ap (λ v. Ok v) number

pub date_text-unique : (m n : ℤ) → negsuc 25_566 ≤ℤ m → m ≤ℤ pos 2_932_896 → negsuc 25_566 ≤ℤ n → n ≤ℤ pos 2_932_896 → date_text m ≡ date_text n → m ≡ n
date_text-unique m n low-m high-m low-n high-n same = same-value date_of (date_of-text m low-m high-m) (date_of-text n low-n high-n) same

-- The canonical texts of counts and times, and what they read back to.
use Rattle.std.proofs.Common.{◌≡◌, ℕ, suc, ◌+◌, ◌-◌, ◌*◌, ◌/◌, ◌%◌, ◌^◌, ◌<◌, ◌≤◌, true, false, not, ◌==◌, nat_lt, Result, Ok, Err, Some, List, [], ◌∷◌, ◌++◌, length, take, drop, arith, refl, sym, ap, ◌∙◌, inl, inr, append_assoc, lit<, lit≤}
use Rattle.std.proofs.lemmas.List.{take_all, drop-append-le, length-drop}
use Rattle.std.specs.List.{before_first, after_first, position_or_len}
use Rattle.std.specs.Result.{result_ok}
use Rattle.std.specs.Str.{all_ascii_digits, IsAscii}
use Rattle.std.specs.Char.{is_ascii_digit}
use Rattle.std.specs.Fmt.{decimal}
use Rattle.std.proofs.lemmas.Bool.{and_from, and_parts, cases_lt, le-leb, lt-ltb}
use Rattle.std.proofs.lemmas.Bool.Decides.{nat_tests}
use Rattle.std.proofs.lemmas.Fmt.{decimal_digit, decimal_step, decimal_is_IsNumeral, decimal_nonempty, length-decimal-le}
use Rattle.std.proofs.lemmas.Str.{IsAscii-append}
use Rattle.std.proofs.lemmas.Str.Ascii.{IsAscii-cons}
use Rattle.gtfs_field.specs.Digits.{number, wide, is_number, is_wide}
use Rattle.gtfs_field.specs.Kinds.{count_of, time_of, is_colon, is_sixtieth}
use Rattle.gtfs_field.specs.Canonical.{count_text, time_text, hours_text}
use Rattle.gtfs_field.specs.declared.fault.FieldFault.{FieldFault}
use Rattle.gtfs_field.proofs.Numerals.{numerals, digits-ascii}
use Rattle.gtfs_field.proofs.Choices.{shaped-true, within-true, some-test}
use Rattle.gtfs_field.proofs.Times.{time_from-ok, hours_at, sixtieth_at}
use Rattle.gtfs_field.proofs.Wides.{wide-digits, number-wide}

there : (n : ℕ) → 0 < n → not (n == 0) ≡ true
there n some = grind (arith, nat_tests)

pub is_number-from : (t : List ℕ) → 0 < length t → all_ascii_digits t ≡ true → is_number t ≡ true
is_number-from t some digits = and_from _ _ (there (length t) some) digits

-- the digits of a number, and their value
pub decimal-digits : (n : ℕ) → n < 2 ^ 64 → all_ascii_digits (decimal n) ≡ true
decimal-digits n fits = numerals.from _ (decimal_is_IsNumeral n fits).0.1

pub decimal-is_number : (n : ℕ) → n < 2 ^ 64 → is_number (decimal n) ≡ true
decimal-is_number n fits = is_number-from (decimal n) (decimal_is_IsNumeral n fits).0.0 (decimal-digits n fits)

pub number-decimal : (n : ℕ) → n < 2 ^ 64 → number (decimal n) ≡ n
number-decimal n fits = (decimal_is_IsNumeral n fits).1

-- a count reads back
pub count_of-text : (n : ℕ) → n ≤ 2_147_483_647 → count_of (count_text n) ≡ Ok n
count_of-text n small =
    let fits : n < 2 ^ 64 = omega arith in
    let value = number-decimal n fits in
    shaped-true _ _ (decimal-is_number n fits)
    ∙ within-true _ _ (le-leb (number (decimal n)) 2_147_483_647 (rw value small))
    ∙ ap (λ v. Ok v) value

-- hours of three and of four digits
pub decimal-three : (h : ℕ) → 100 ≤ h → h < 1000 → decimal h ≡ wide 3 h
decimal-three h low high =
    let one : h / 10 / 10 % 10 ≡ h / 10 / 10 = omega arith in
    rw (decimal_step h (omega arith) (omega arith), decimal_step (h / 10) (omega arith) (omega arith), decimal_digit (h / 10 / 10) (omega arith), one) refl

pub decimal-four : (h : ℕ) → 1000 ≤ h → h < 10_000 → decimal h ≡ wide 4 h
decimal-four h low high =
    let one : h / 10 / 10 / 10 % 10 ≡ h / 10 / 10 / 10 = omega arith in
    rw (decimal_step h (omega arith) (omega arith), decimal_step (h / 10) (omega arith) (omega arith), decimal_step (h / 10 / 10) (omega arith) (omega arith), decimal_digit (h / 10 / 10 / 10) (omega arith), one) refl

not-two : (h : ℕ) → 100 ≤ h → nat_lt h 100 ≡ false
not-two h low = grind (arith, nat_tests)

two : (h : ℕ) → h < 100 → nat_lt h 100 ≡ true
two h low = grind (arith, nat_tests)

pub hours_text-three : (h : ℕ) → 100 ≤ h → h < 1000 → wide 3 h ≡ hours_text h
hours_text-three h low high = rw (not-two h low) (sym (decimal-three h low high))

pub hours_text-four : (h : ℕ) → 1000 ≤ h → h < 10_000 → wide 4 h ≡ hours_text h
hours_text-four h low high = rw (not-two h (omega arith)) (sym (decimal-four h low high))

hours-digits : (h : ℕ) → h < 10_000 → all_ascii_digits (hours_text h) ≡ true
hours-digits h high = elim (cases_lt h 100) [
  | inl low ↦ rw (two h low) (wide-digits 2 h)
  | inr more ↦ rw (not-two h more) (decimal-digits h (omega arith))
]

hours-number : (h : ℕ) → h < 10_000 → number (hours_text h) ≡ h
hours-number h high = elim (cases_lt h 100) [
  | inl low ↦ rw (two h low) (number-wide 2 h low)
  | inr more ↦ rw (not-two h more) (number-decimal h (omega arith))
]

hours-some : (h : ℕ) → h < 10_000 → 0 < length (hours_text h)
hours-some h high = elim (cases_lt h 100) [
  | inl low ↦ rw (two h low) (lit< tt)
  | inr more ↦ rw (not-two h more) (decimal_nonempty h (omega arith))
]

hours-short : (h : ℕ) → h < 1000 → length (hours_text h) ≤ 3
hours-short h high = elim (cases_lt h 100) [
  | inl low ↦ rw (two h low) (lit≤ tt)
  | inr more ↦ rw (not-two h more) (length-decimal-le 3 h (lit< tt) high (omega arith))
]

-- what stands round the first colon after digits
digit-no-colon : (b : ℕ) → is_ascii_digit b ≡ true → is_colon b ≡ false
digit-no-colon b digit = grind (arith, nat_tests)

pub around-colon : (ds rest : List ℕ) → all_ascii_digits ds ≡ true → (before_first is_colon (ds ++ 58 ∷ rest) ≡ ds) × (after_first is_colon (ds ++ 58 ∷ rest) ≡ rest)
around-colon [] rest digits = (refl, refl)
around-colon (d ∷ ds) rest digits =
    let given = and_parts (is_ascii_digit d) (all_ascii_digits ds) digits in
    let other = digit-no-colon d given.0 in
    let more = around-colon ds rest given.1 in
    let n = position_or_len is_colon (ds ++ 58 ∷ rest) in
    let once : 1 + n ≡ suc n = omega arith in
    let twice : suc n + 1 ≡ suc (n + 1) = omega arith in
    (rw (other, once) (ap (λ t. d ∷ t) more.0), rw (other, once, twice) more.1)

-- a time's text in two parts
rest_of : ℕ → List ℕ
rest_of v = wide 2 (v / 60 % 60) ++ 58 ∷ wide 2 (v % 60)

time_text-parts : (v : ℕ) → time_text v ≡ hours_text (v / 3600) ++ 58 ∷ rest_of v
unfolding rest_of
time_text-parts v = append_assoc (hours_text (v / 3600)) (58 ∷ wide 2 (v / 60 % 60)) (58 ∷ wide 2 (v % 60))

around-time : (v : ℕ) → v ≤ 7_199_999 → (before_first is_colon (time_text v) ≡ hours_text (v / 3600)) × (after_first is_colon (time_text v) ≡ rest_of v)
around-time v most = rw (time_text-parts v) (around-colon (hours_text (v / 3600)) (rest_of v) (hours-digits (v / 3600) (omega arith)))

-- the seconds that a text writes, however many digits of hours it has
seconds_of : List ℕ → ℕ
seconds_of t = 3600 * number (before_first is_colon t) + 60 * number (take 2 (after_first is_colon t)) + number (drop 3 (after_first is_colon t))

seconds_of-text : (v : ℕ) → v ≤ 7_199_999 → seconds_of (time_text v) ≡ v
unfolding seconds_of rest_of
seconds_of-text v most =
    let around = around-time v most in
    let hours = hours-number (v / 3600) (omega arith) in
    let minutes = number-wide 2 (v / 60 % 60) (omega arith) in
    let seconds = number-wide 2 (v % 60) (omega arith) in
    rw (around.0, around.1, hours) (omega (arith, minutes, seconds))

-- equal texts, equal times
pub time_text-unique : (u v : ℕ) → u ≤ 7_199_999 → v ≤ 7_199_999 → time_text u ≡ time_text v → u ≡ v
time_text-unique u v most-u most-v same = sym (seconds_of-text u most-u) ∙ ap seconds_of same ∙ seconds_of-text v most-v

ok-from : {V : Type 0} (r : Result V FieldFault) (v : V) → Some v ≡ result_ok r → r ≡ Ok v
ok-from (Ok w) v same = cc
ok-from (Err e) v same = cc

hours_at-text : (h : ℕ) → h < 1000 → Some h ≡ hours_at (hours_text h)
hours_at-text h high =
    let value = hours-number h (omega arith) in
    let digits = hours-digits h (omega arith) in
    let some : 0 < length (hours_text h) = hours-some h (omega arith) in
    some-test _ _ _ (and_from _ _ (is_number-from (hours_text h) some digits) (le-leb _ _ (hours-short h high))) (sym value)

sixtieth_at-text : (n : ℕ) → n < 60 → is_sixtieth (wide 2 n) ≡ true
sixtieth_at-text n small =
    let value = number-wide 2 n (omega arith) in
    let below : nat_lt (number (wide 2 n)) 60 ≡ true = lt-ltb _ _ (rw value small) in
    and_from (is_wide 2 (wide 2 n)) _ (and_from _ _ refl (wide-digits 2 n)) below

-- a time with at most three digits of hours reads back
pub time_of-text : (v : ℕ) → v ≤ 3_599_999 → time_of (time_text v) ≡ Ok v
unfolding rest_of
time_of-text v most =
    let m = v / 60 % 60 in
    let s = v % 60 in
    let around = around-time v (omega arith) in
    let minutes : Some m ≡ sixtieth_at (rest_of v) 0 = some-test _ _ _ (sixtieth_at-text m (omega arith)) (sym (number-wide 2 m (omega arith))) in
    let seconds : Some s ≡ sixtieth_at (rest_of v) 3 = some-test _ _ _ (sixtieth_at-text s (omega arith)) (sym (number-wide 2 s (omega arith))) in
    let whole = time_from-ok (hours_text (v / 3600)) (rest_of v) (v / 3600) m s refl refl (hours_at-text (v / 3600) (omega arith)) minutes seconds in
    let sum : 3600 * (v / 3600) + 60 * m + s ≡ v = omega arith in
    rw (around.0, around.1) (ok-from _ _ (rw sum at whole))

-- four digits of hours without those to spare
pub time-slice : (v spare : ℕ) (bytes : List ℕ) → spare ≤ 2 → drop spare (wide 4 (v / 3600)) ≡ hours_text (v / 3600)
    → bytes ≡ wide 4 (v / 3600) ++ 58 ∷ wide 2 (v / 60 % 60) ++ 58 ∷ wide 2 (v % 60) → take (10 - spare) (drop spare bytes) ≡ time_text v
time-slice v spare bytes few hours whole =
    let four = wide 4 (v / 3600) in
    let middle = 58 ∷ wide 2 (v / 60 % 60) in
    let last = 58 ∷ wide 2 (v % 60) in
    let all : length (drop spare bytes) ≤ 10 - spare = rw whole (rw length-drop (omega arith)) in
    take_all (10 - spare) (drop spare bytes) all
    ∙ rw (whole, drop-append-le spare (four ++ middle) last (omega arith), drop-append-le spare four middle (omega arith), hours) refl

pub time-ascii : (v : ℕ) → v ≤ 7_199_999 → IsAscii (time_text v)
time-ascii v most =
    let hours = hours_text (v / 3600) in
    let minutes = wide 2 (v / 60 % 60) in
    let seconds = wide 2 (v % 60) in
    IsAscii-append (hours ++ 58 ∷ minutes) (58 ∷ seconds)
    (IsAscii-append hours (58 ∷ minutes) (digits-ascii hours (hours-digits (v / 3600) (omega arith))) (IsAscii-cons 58 minutes (lit< tt) (digits-ascii minutes (wide-digits 2 (v / 60 % 60)))))
    (IsAscii-cons 58 seconds (lit< tt) (digits-ascii seconds (wide-digits 2 (v % 60))))

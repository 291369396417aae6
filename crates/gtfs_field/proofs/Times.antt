-- Times from what stands before the first colon and after it.
use Rattle.std.proofs.Common.{◌≡◌, ◌≢◌, ℕ, ◌+◌, ◌-◌, ◌*◌, ◌&&◌, ◌==◌, true, false, Option, Some, None, if◌then◌else◌, nat_le, List, [], ◌∷◌, length, get_or, arith, refl, sym, ap}
use Rattle.std.specs.Result.{result_ok}
use Rattle.std.specs.Char.{is_ascii_digit}
use Rattle.std.specs.Str.{all_ascii_digits}
use Rattle.std.proofs.lemmas.Bool.{and_left, and_right, and_from}
use Rattle.std.proofs.lemmas.Bool.Decides.{nat_tests}
use Rattle.gtfs_field.specs.Digits.{is_number, is_wide, number}
use Rattle.gtfs_field.specs.Kinds.{time_from, has_time_shape, is_sixtieth, is_colon}
use Rattle.gtfs_field.proofs.Numerals.{digit_value-digit}
use Rattle.gtfs_field.proofs.Choices.{test-some, test-none, some-test, none-test, shaped-true, shaped-false}

-- the two bytes at an index of a text
abbrev pub pair_at : List ℕ → ℕ → List ℕ
pair_at t i = get_or t i 0 ∷ get_or t (i + 1) 0 ∷ []

abbrev pub hours_at : List ℕ → Option ℕ
hours_at hours = if is_number hours && nat_le (length hours) 3 then Some (number hours) else None

abbrev pub sixtieth_of : List ℕ → Option ℕ
sixtieth_of ds = if is_sixtieth ds then Some (number ds) else None

abbrev pub sixtieth_at : List ℕ → ℕ → Option ℕ
sixtieth_at t i = sixtieth_of (pair_at t i)

-- three digits of hours
pub hours_at-pair : (t : List ℕ) (n : ℕ) → length t ≡ 3 → None ≡ (if is_wide 2 (pair_at t 1) then Some n else None) → None ≡ hours_at t
hours_at-pair (a ∷ b ∷ c ∷ []) n three none =
    none-test _ _ (and_left (is_number (a ∷ b ∷ c ∷ [])) _ (and_right (is_ascii_digit a) (all_ascii_digits (b ∷ c ∷ [])) (test-none _ n none)))
hours_at-pair t n three none = absurd (omega arith)

pub hours_at-three : (t : List ℕ) (h n : ℕ) → length t ≡ 3 → Some h ≡ (if is_ascii_digit (get_or t 0 0) then Some (get_or t 0 0 - 48) else None)
    → Some n ≡ (if is_wide 2 (pair_at t 1) then Some (number (pair_at t 1)) else None) → Some (100 * h + n) ≡ hours_at t
hours_at-three (a ∷ b ∷ c ∷ []) h n three first last =
    let one = test-some _ _ _ first in
    let two = test-some _ _ _ last in
    let digit = digit_value-digit a one.0 in
    let value : 100 * h + n ≡ number (a ∷ b ∷ c ∷ []) = omega (arith, one.1, two.1, digit) in
    some-test _ _ _ (and_from (is_number (a ∷ b ∷ c ∷ [])) _ (and_from (is_ascii_digit a) (all_ascii_digits (b ∷ c ∷ [])) one.0 two.0) refl) value
hours_at-three t h n three first last = absurd (omega arith)

pub time_from-not : (hours rest : List ℕ) → has_time_shape hours rest ≡ false → None ≡ result_ok (time_from hours rest)
time_from-not hours rest without = sym (ap result_ok (shaped-false _ _ without))

length-not : (n : ℕ) → n ≢ 5 → (n == 5) ≡ false
length-not n other = grind (arith, nat_tests)

pub time_from-length : (hours rest : List ℕ) → length rest ≢ 5 → None ≡ result_ok (time_from hours rest)
time_from-length hours rest other =
    time_from-not hours rest (and_left _ _ (and_left _ _ (and_left _ _ (and_right _ _ (length-not (length rest) other)))))

pub time_from-hours : (hours rest : List ℕ) → None ≡ hours_at hours → None ≡ result_ok (time_from hours rest)
time_from-hours hours rest none =
    time_from-not hours rest (and_left _ _ (and_left _ _ (and_left _ _ (and_left _ _ (test-none _ _ none)))))

pub time_from-middle : (hours rest : List ℕ) → get_or rest 2 0 ≢ 58 → None ≡ result_ok (time_from hours rest)
time_from-middle hours rest other =
    let no-colon : is_colon (get_or rest 2 0) ≡ false = grind (arith, nat_tests) in
    time_from-not hours rest (and_left _ _ (and_left _ _ (and_right _ _ no-colon)))

pub time_from-minutes : (hours rest : List ℕ) → length rest ≡ 5 → None ≡ sixtieth_at rest 0 → None ≡ result_ok (time_from hours rest)
time_from-minutes hours (m1 ∷ m2 ∷ colon ∷ s1 ∷ s2 ∷ []) five none =
    time_from-not hours (m1 ∷ m2 ∷ colon ∷ s1 ∷ s2 ∷ []) (and_left _ _ (and_right _ _ (test-none _ _ none)))
time_from-minutes hours rest five none = absurd (omega arith)

pub time_from-seconds : (hours rest : List ℕ) → length rest ≡ 5 → None ≡ sixtieth_at rest 3 → None ≡ result_ok (time_from hours rest)
time_from-seconds hours (m1 ∷ m2 ∷ colon ∷ s1 ∷ s2 ∷ []) five none =
    time_from-not hours (m1 ∷ m2 ∷ colon ∷ s1 ∷ s2 ∷ []) (and_right _ _ (test-none _ _ none))
time_from-seconds hours rest five none = absurd (omega arith)

pub time_from-ok : (hours rest : List ℕ) (h m s : ℕ) → length rest ≡ 5 → get_or rest 2 0 ≡ 58 → Some h ≡ hours_at hours → Some m ≡ sixtieth_at rest 0 → Some s ≡ sixtieth_at rest 3 → Some (3600 * h + 60 * m + s) ≡ result_ok (time_from hours rest)
time_from-ok hours (m1 ∷ m2 ∷ colon ∷ s1 ∷ s2 ∷ []) h m s five is-colon there minutes seconds =
    let a = test-some _ _ _ there in
    let b = test-some _ _ _ minutes in
    let c = test-some _ _ _ seconds in
    let middle : is_colon colon ≡ true = grind (arith, nat_tests) in
    let shape : has_time_shape hours (m1 ∷ m2 ∷ colon ∷ s1 ∷ s2 ∷ []) ≡ true =
    and_from _ _ (and_from _ _ (and_from _ _ (and_from _ _ a.0 refl) middle) b.0) c.0 in
    rw (a.1, b.1, c.1) (sym (ap result_ok (shaped-true _ _ shape)))
time_from-ok hours rest h m s five is-colon there minutes seconds = absurd (omega arith)

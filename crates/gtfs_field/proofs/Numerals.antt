-- Texts of decimal digits, a byte at a time.
use Rattle.std.proofs.Common.{◌≡◌, ℕ, zero, suc, ◌+◌, ◌-◌, ◌*◌, ◌^◌, ◌<◌, ◌≤◌, true, false, List, [], ◌∷◌, ◌++◌, length, get_or, take, min, arith}
use Rattle.std.specs.Char.{is_ascii_digit, digit_value}
use Rattle.std.specs.Str.{all_ascii_digits, IsAscii}
use Rattle.std.proofs.lemmas.Bool.{and_parts, and_from}
use Rattle.std.proofs.lemmas.Fmt.{IsAscii-from_digits}
use Rattle.std.proofs.lemmas.Bool.Decides.{nat_tests}
use Rattle.std.proofs.lemmas.Str.Parse.{IsNumeralModel, numerals_by_value, tells_all_ascii_digits}
use Rattle.std.proofs.lemmas.Int.Digits.{digits_more, digits_value_more, digits_value-lt}
use Rattle.std.proofs.lemmas.List.{take_all}
use Rattle.gtfs_field.specs.Digits.{number}

-- decimal digits, in the words of std
pub numerals : IsNumeralModel (λ ds. all_ascii_digits ds ≡ true) number
numerals = numerals_by_value _ tells_all_ascii_digits

pub digit_value-digit : (b : ℕ) → is_ascii_digit b ≡ true → digit_value b ≡ b - 48
digit_value-digit b h = grind (arith, nat_tests)

pub digit-bounds : (b : ℕ) → is_ascii_digit b ≡ true → (48 ≤ b) × (b < 58)
digit-bounds b h = (grind (arith, nat_tests), grind (arith, nat_tests))

-- one more digit
pub all_digits-more : (t : List ℕ) (i : ℕ) → i < length t → all_ascii_digits (take i t) ≡ true → is_ascii_digit (get_or t i 0) ≡ true → all_ascii_digits (take (i + 1) t) ≡ true
all_digits-more t i h digits here =
    numerals.from _ (digits_more 10 t i h (numerals.to _ digits) (grind (arith, nat_tests)))

-- a byte that is no digit
pub all_digits-not : (t : List ℕ) (i : ℕ) → i < length t → is_ascii_digit (get_or t i 0) ≡ false → all_ascii_digits t ≡ false
all_digits-not [] i h here = absurd (omega arith)
all_digits-not (b ∷ t) zero h here = rw here
all_digits-not (b ∷ t) (suc i) h here = let rest = all_digits-not t i (omega arith) here in grind (arith, rest)

-- a running value that stops at `most`
pub min-more : (most n d : ℕ) → min (min (min n most * 10) most + d) most ≡ min (n * 10 + d) most
min-more most n d = omega arith

pub number-more : (most : ℕ) (t : List ℕ) (i m : ℕ) → i < length t → is_ascii_digit (get_or t i 0) ≡ true → m ≡ min (number (take i t)) most → min (min (m * 10) most + (get_or t i 0 - 48)) most ≡ min (number (take (i + 1) t)) most
number-more most t i m h here before =
    rw (before, digits_value_more 10 t i h, digit_value-digit (get_or t i 0) here) (min-more most (number (take i t)) (get_or t i 0 - 48))

-- a value of a whole text is below the power of its length
pub number-lt : (most : ℕ) (t : List ℕ) (i m : ℕ) → length t ≤ i → all_ascii_digits (take i t) ≡ true → m ≡ min (number (take i t)) most → m < 10 ^ length t
number-lt most t i m all digits value =
    let whole : take i t ≡ t = take_all i t all in
    let below = digits_value-lt 10 t (numerals.to t (rw whole at digits)) in
    let e = rw whole at value in
    omega (arith, below, e)

pub digits-append : (xs ys : List ℕ) → all_ascii_digits xs ≡ true → all_ascii_digits ys ≡ true → all_ascii_digits (xs ++ ys) ≡ true
digits-append [] ys first second = second
digits-append (x ∷ xs) ys first second =
    let given = and_parts (is_ascii_digit x) (all_ascii_digits xs) first in and_from _ _ given.0 (digits-append xs ys given.1 second)

-- digits are ASCII
pub digits-ascii : (t : List ℕ) → all_ascii_digits t ≡ true → IsAscii t
digits-ascii t digits = IsAscii-from_digits t (numerals.to t digits)

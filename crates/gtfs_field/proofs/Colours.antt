-- Colours of six hexadecimal digits.
use Rattle.std.proofs.Common.{◌≡◌, ◌≢◌, ℕ, ◌^◌, ◌<◌, ◌≤◌, true, nat_lt, List, [], ◌∷◌, length, get_or, arith, refl, zero, suc, ◌/◌, ◌%◌, Ok, ap, ◌∙◌}
use Rattle.std.specs.Char.{digit_value}
use Rattle.std.specs.List.{list_all}
use Rattle.std.specs.Str.Parse.{digits_value, AllDigits, IsNumeral, without_leading_plus}
use Rattle.std.proofs.lemmas.Bool.{and_parts, and_from, ltb-true, eqb-true, lt-ltb}
use Rattle.std.proofs.lemmas.Bool.Decides.{nat_tests}
use Rattle.std.proofs.lemmas.Int.Digits.{digits_value-lt}
use Rattle.std.proofs.lemmas.Str.Parse.{without_leading_plus_none}
use Rattle.gtfs_field.specs.Kinds.{is_six_hexadecimal, colour_of}
use Rattle.gtfs_field.specs.Canonical.{colour_text}
use Rattle.gtfs_field.specs.Digits.{wide_hex, hex_digit}
use Rattle.gtfs_field.proofs.Choices.{shaped-true, same-value}
use Rattle.std.proofs.Math.Nat.{pow-suc, div-add-mod', div-div-eq-div-mul}
use Rattle.std.proofs.lemmas.Int.Digits.{digits_push, digits_value_push}

all_hexadecimal : (t : List ℕ) → list_all (λ b. nat_lt (digit_value b) 16) t ≡ true → AllDigits 16 t
all_hexadecimal [] all = tt
all_hexadecimal (b ∷ t) all =
    let given = and_parts _ _ all in (ltb-true _ _ given.0, all_hexadecimal t given.1)

not-plus : (b : ℕ) → digit_value b < 16 → b ≢ 43
not-plus b digit = λ plus. grind (arith, nat_tests)

first-not-plus : (t : List ℕ) → AllDigits 16 t → get_or t 0 0 ≢ 43
first-not-plus [] all = λ plus. omega arith
first-not-plus (b ∷ t) all = not-plus b all.0

-- what `from_str_radix` says of six hexadecimal digits
pub record IsColour (t : List ℕ) : Type 0 where
  pub numeral : IsNumeral 16 (without_leading_plus t)
  pub same : without_leading_plus t ≡ t
  pub below : digits_value 16 t < 2 ^ 24

pub six_hexadecimal : (t : List ℕ) → is_six_hexadecimal t ≡ true → IsColour t
six_hexadecimal t shape =
    let given = and_parts _ _ shape in
    let six : length t ≡ 6 = eqb-true _ _ given.0 in
    let all = all_hexadecimal t given.1 in
    let same = without_leading_plus_none t (first-not-plus t all) in
    record {
      numeral = rw same (omega arith, all);
      same = same;
      below = rw six at (digits_value-lt 16 t all);
    }

glyph-value : (d : ℕ) → d < 16 → digit_value (hex_digit d) ≡ d
glyph-value d small = grind (arith, nat_tests)

wide_hex-digits : (k n : ℕ) → AllDigits 16 (wide_hex k n)
wide_hex-digits zero n = tt
wide_hex-digits (suc k) n =
    let d : n % 16 < 16 = omega arith in
    let small : digit_value (hex_digit (n % 16)) < 16 = rw (glyph-value (n % 16) d) d in
    digits_push 16 (wide_hex k (n / 16)) (hex_digit (n % 16)) (wide_hex-digits k (n / 16)) small

wide_hex-value : (k n : ℕ) → n < 16 ^ k → digits_value 16 (wide_hex k n) ≡ n
wide_hex-value zero n small = omega arith
wide_hex-value (suc k) n small =
    let front : n / 16 < 16 ^ k = let p = 16 ^ k in omega (arith, pow-suc 16 k) in
    let d : n % 16 < 16 = omega arith in
    rw (digits_value_push 16 (wide_hex k (n / 16)) (hex_digit (n % 16)), wide_hex-value k (n / 16) front, glyph-value (n % 16) d) (div-add-mod' n 16)

from_digits : (t : List ℕ) → AllDigits 16 t → list_all (λ b. nat_lt (digit_value b) 16) t ≡ true
from_digits [] digits = refl
from_digits (b ∷ t) digits = and_from _ _ (lt-ltb (digit_value b) 16 digits.0) (from_digits t digits.1)

-- a colour reads back
pub colour_of-text : (v : ℕ) → v ≤ 0xFF_FFFF → colour_of (colour_text v) ≡ Ok v
colour_of-text v most =
    let shape : is_six_hexadecimal (colour_text v) ≡ true = and_from true _ refl (from_digits (colour_text v) (wide_hex-digits 6 v)) in
    shaped-true _ _ shape ∙ ap (λ n. Ok n) (wide_hex-value 6 v (omega arith))

pub colour_text-unique : (u v : ℕ) → u ≤ 0xFF_FFFF → v ≤ 0xFF_FFFF → colour_text u ≡ colour_text v → u ≡ v
colour_text-unique u v most-u most-v same = same-value colour_of (colour_of-text u most-u) (colour_of-text v most-v) same

-- the digits of a colour by their places
pub places : (v : ℕ)
    → hex_digit (v / 1048576 % 16) ∷ hex_digit (v / 65536 % 16) ∷ hex_digit (v / 4096 % 16) ∷ hex_digit (v / 256 % 16) ∷ hex_digit (v / 16 % 16) ∷ hex_digit (v % 16) ∷ [] ≡ colour_text v
places v =
    let two : v / 16 / 16 ≡ v / 256 = div-div-eq-div-mul v 16 16 in
    let three : v / 16 / 16 / 16 ≡ v / 4096 = ap (λ (x : ℕ). x / 16) two ∙ div-div-eq-div-mul v 256 16 in
    let four : v / 16 / 16 / 16 / 16 ≡ v / 65536 = ap (λ (x : ℕ). x / 16) three ∙ div-div-eq-div-mul v 4096 16 in
    let five : v / 16 / 16 / 16 / 16 / 16 ≡ v / 1048576 = ap (λ (x : ℕ). x / 16) four ∙ div-div-eq-div-mul v 65536 16 in
    rw (five, four, three, two) refl

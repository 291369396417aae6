-- The shape of a coordinate, and its value, from what stands before the first point and after it.
use Rattle.std.proofs.Common.{◌≡◌, ℕ, suc, ◌+◌, ◌-◌, ◌*◌, ◌/◌, ◌^◌, ◌<◌, ◌&&◌, ◌==◌, true, false, not, cond, Option, Some, None, if◌then◌else◌, nat_le, List, [], ◌∷◌, ◌++◌, length, count_by, arith, refl, sym, ap, ◌∙◌, inl, inr, length-append, min, get_or}
use Rattle.std.specs.List.{before_first, after_first, position_or_len}
use Rattle.std.proofs.lemmas.List.Sums.{sum_by-cons}
use Rattle.std.specs.Str.{all_ascii_digits, IsUtf8, IsCharBoundary}
use Rattle.std.proofs.lemmas.Str.{IsCharBoundary-after_ascii}
use Rattle.std.specs.Str.Parse.{digits_value_after}
use Rattle.std.specs.Char.{is_ascii_digit, digit_value}
use Rattle.std.proofs.lemmas.Bool.{and_left, and_right, and_parts, cases_Bool}
use Rattle.std.proofs.Math.Bool.{and_assoc}
use Rattle.std.proofs.lemmas.Bool.Decides.{nat_tests}
use Rattle.std.proofs.Math.Nat.{pow-suc, mul-add-div_right, one-le-pow}
use Rattle.gtfs_field.specs.Digits.{number}
use Rattle.gtfs_field.specs.Kinds.{is_point, without_points, has_coordinate_shape, magnitude, is_sign, are_digits, billionths}
use Rattle.gtfs_field.proofs.TestFacts.{and_exchange}

pub digit-no-point : (b : ℕ) → is_ascii_digit b ≡ true → is_point b ≡ false
digit-no-point b digit = grind (arith, nat_tests)

-- digits have no point among them
pub without_points-digits : (t : List ℕ) → all_ascii_digits t ≡ true → without_points t ≡ t
without_points-digits [] digits = refl
without_points-digits (b ∷ t) digits =
    let given = and_parts _ _ digits in
    rw (digit-no-point b given.0) (ap (λ rest. b ∷ rest) (without_points-digits t given.1))

-- where the first byte is a point, and where it is not
around-point : (b : ℕ) (t : List ℕ) → is_point b ≡ true → (before_first is_point (b ∷ t) ≡ []) × (after_first is_point (b ∷ t) ≡ t)
around-point b t point = (rw point refl, rw point refl)

around-other : (b : ℕ) (t : List ℕ) → is_point b ≡ false → (before_first is_point (b ∷ t) ≡ b ∷ before_first is_point t) × (after_first is_point (b ∷ t) ≡ after_first is_point t)
around-other b t other =
    let n = position_or_len is_point t in
    let one : 1 + n ≡ suc n = omega arith in
    let two : suc n + 1 ≡ suc (n + 1) = omega arith in
    (rw (other, one) refl, rw (other, one, two) refl)

count : (b : ℕ) (t : List ℕ) → count_by is_point (b ∷ t) ≡ cond (is_point b) 1 0 + count_by is_point t
count b t = sum_by-cons (λ x. cond (is_point x) 1 0) b t

kept-point : (b : ℕ) (t : List ℕ) → is_point b ≡ true → without_points (b ∷ t) ≡ without_points t
kept-point b t point = rw point refl

kept-other : (b : ℕ) (t : List ℕ) → is_point b ≡ false → without_points (b ∷ t) ≡ b ∷ without_points t
kept-other b t other = rw other refl

point-no-digit : (b : ℕ) → is_point b ≡ true → is_ascii_digit b ≡ false
point-no-digit b point = grind (arith, nat_tests)

too_many : (n : ℕ) → nat_le (1 + n + 1) 1 ≡ false
too_many n = grind (arith, nat_tests)

-- digits and no point, as the tests of a shape say it
no_point : (t : List ℕ) → (nat_le (count_by is_point t + 1) 1 && all_ascii_digits (without_points t)) ≡ all_ascii_digits t
no_point [] = refl
no_point (b ∷ t) = elim (cases_Bool (is_point b)) [
  | inl point ↦
      let more : nat_le (count_by is_point (b ∷ t) + 1) 1 ≡ false = rw (count b t, point) (too_many (count_by is_point t)) in
      and_left _ (all_ascii_digits (without_points (b ∷ t))) more ∙ sym (and_left _ _ (point-no-digit b point))
  | inr other ↦
      let same : cond (is_point b) 1 0 + count_by is_point t ≡ count_by is_point t = rw other (omega arith) in
      rw (count b t, same, kept-other b t other)
      (and_exchange (nat_le (count_by is_point t + 1) 1) (is_ascii_digit b) (all_ascii_digits (without_points t)) ∙ ap (λ r. is_ascii_digit b && r) (no_point t))
]

-- digits with at most one point, as the tests of a shape say it
one_point : (t : List ℕ) → (nat_le (count_by is_point t) 1 && all_ascii_digits (without_points t)) ≡ (all_ascii_digits (before_first is_point t) && all_ascii_digits (after_first is_point t))
one_point [] = refl
one_point (b ∷ t) = elim (cases_Bool (is_point b)) [
  | inl point ↦
      let around = around-point b t point in
      let more : cond (is_point b) 1 0 + count_by is_point t ≡ count_by is_point t + 1 = rw point (omega arith) in
      rw (count b t, more, kept-point b t point, around.0, around.1) (no_point t)
  | inr other ↦
      let around = around-other b t other in
      let same : cond (is_point b) 1 0 + count_by is_point t ≡ count_by is_point t = rw other (omega arith) in
      rw (count b t, same, kept-other b t other, around.0, around.1)
      (and_exchange (nat_le (count_by is_point t) 1) (is_ascii_digit b) (all_ascii_digits (without_points t))
      ∙ ap (λ r. is_ascii_digit b && r) (one_point t) ∙ sym (and_assoc (is_ascii_digit b) (all_ascii_digits (before_first is_point t)) (all_ascii_digits (after_first is_point t))))
]

pub without_points-around : (t : List ℕ) → all_ascii_digits (after_first is_point t) ≡ true → without_points t ≡ before_first is_point t ++ after_first is_point t
without_points-around [] digits = refl
without_points-around (b ∷ t) digits = elim (cases_Bool (is_point b)) [
  | inl point ↦
      let around = around-point b t point in
      rw (kept-point b t point, around.0, around.1) (without_points-digits t (rw around.1 at digits))
  | inr other ↦
      let around = around-other b t other in
      rw (kept-other b t other, around.0, around.1) (ap (λ r. b ∷ r) (without_points-around t (rw around.1 at digits)))
]

-- what stands around the first point, and how it makes a coordinate
abbrev pub whole_of : List ℕ → List ℕ
whole_of t = before_first is_point t

abbrev pub fraction_of : List ℕ → List ℕ
fraction_of t = after_first is_point t

no_bytes : (t : List ℕ) → length t ≡ 0 → t ≡ []
no_bytes [] none = refl
no_bytes (b ∷ t) none = absurd (omega arith)

shape-swap : (t : List ℕ) → has_coordinate_shape t ≡ (not (length (without_points t) == 0) && (all_ascii_digits (whole_of t) && all_ascii_digits (fraction_of t)))
shape-swap t =
    and_exchange (nat_le (count_by is_point t) 1) (not (length (without_points t) == 0)) (all_ascii_digits (without_points t))
    ∙ ap (λ r. not (length (without_points t) == 0) && r) (one_point t)

empty-both : (a b : ℕ) → not (a + b == 0) ≡ not ((a == 0) && (b == 0))
empty-both a b = grind (arith, nat_tests)

-- a body has the shape exactly where what stands around its point does
pub shape-around : (t : List ℕ) → has_coordinate_shape t ≡ are_digits (whole_of t) (fraction_of t)
shape-around t = shape-swap t ∙ elim (cases_Bool (all_ascii_digits (fraction_of t))) [
  | inl fraction ↦
      let bytes : not (length (without_points t) == 0) ≡ not ((length (whole_of t) == 0) && (length (fraction_of t) == 0)) =
      rw (without_points-around t fraction, length-append (whole_of t) (fraction_of t)) (empty-both (length (whole_of t)) (length (fraction_of t))) in
      ap (λ r. r && (all_ascii_digits (whole_of t) && all_ascii_digits (fraction_of t))) bytes
  | inr other ↦ and_right _ _ (and_right _ _ other) ∙ sym (and_right _ _ (and_right _ _ other))
]

value-after : (n : ℕ) (ds : List ℕ) → digits_value_after 10 n ds ≡ n * 10 ^ length ds + number ds
value-after n [] = omega arith
value-after n (d ∷ ds) =
    rw (value-after (n * 10 + digit_value d) ds, value-after (0 * 10 + digit_value d) ds, pow-suc 10 (length ds)) (omega arith)

value-append-after : (n : ℕ) (xs ys : List ℕ) → digits_value_after 10 n (xs ++ ys) ≡ digits_value_after 10 (digits_value_after 10 n xs) ys
value-append-after n [] ys = refl
value-append-after n (x ∷ xs) ys = value-append-after (n * 10 + digit_value x) xs ys

pub number-append : (xs ys : List ℕ) → number (xs ++ ys) ≡ number xs * 10 ^ length ys + number ys
number-append xs ys = value-append-after 0 xs ys ∙ value-after (number xs) ys

-- degrees and a fraction over one power of ten
spread : (w f k : ℕ) → (w * 10 ^ k + f) * 10 ^ 9 / 10 ^ k ≡ w * 10 ^ 9 + f * 10 ^ 9 / 10 ^ k
spread w f k =
    let p = 10 ^ k in
    let sum : (w * p + f) * 10 ^ 9 ≡ w * 10 ^ 9 * p + f * 10 ^ 9 = omega arith in
    rw sum (mul-add-div_right (one-le-pow k 10 (omega arith)) (w * 10 ^ 9) (f * 10 ^ 9))

pub magnitude-around : (t : List ℕ) → are_digits (whole_of t) (fraction_of t) ≡ true → magnitude t ≡ billionths (whole_of t) (fraction_of t)
magnitude-around t shape =
    let both : (all_ascii_digits (whole_of t) && all_ascii_digits (fraction_of t)) ≡ true = (and_parts _ _ shape).1 in
    let fraction : all_ascii_digits (fraction_of t) ≡ true = (and_parts _ _ both).1 in
    rw (without_points-around t fraction, number-append (whole_of t) (fraction_of t)) (spread (number (whole_of t)) (number (fraction_of t)) (length (fraction_of t)))

-- what `magnitude_of` answers
abbrev pub magnitude_at : List ℕ → List ℕ → Option ℕ
magnitude_at whole fraction = if are_digits whole fraction then Some (min (billionths whole fraction) (2 ^ 64 - 1)) else None

pub magnitude_at-around : (t whole fraction : List ℕ) → whole ≡ whole_of t → fraction ≡ fraction_of t → magnitude_at whole fraction ≡ (if has_coordinate_shape t then Some (min (magnitude t) (2 ^ 64 - 1)) else None)
magnitude_at-around t whole fraction before after = elim (cases_Bool (are_digits (whole_of t) (fraction_of t))) [
  | inl shape ↦ rw (before, after, shape-around t, magnitude-around t shape) refl
  | inr other ↦ rw (before, after, shape-around t, other) refl
]

-- a sign is one byte, and a character may begin after it
pub boundary-sign : (t : List ℕ) → IsUtf8 t → is_sign (get_or t 0 0) ≡ true → IsCharBoundary t 1
boundary-sign [] text sign = cc
boundary-sign (b ∷ t) text sign =
    let low : b < 128 = grind (arith, nat_tests) in IsCharBoundary-after_ascii (b ∷ t) 0 text (omega arith) low

-- The canonical texts of coordinates, and what they read back to.
use Rattle.std.proofs.Common.{◌≡◌, ℕ, suc, ◌+◌, ◌-◌, ◌*◌, ◌/◌, ◌%◌, ◌^◌, ◌<◌, ◌≤◌, ◌&&◌, ◌==◌, not, Bool, true, false, Result, Ok, List, [], ◌∷◌, ◌++◌, length, get_or, arith, refl, sym, ap, ◌∙◌, inl, inr, if◌then◌else◌, ℤ, pos, negsuc, neg_ℤ, int_lt, unsigned_abs}
use Rattle.std.specs.List.{before_first, after_first, position_or_len}
use Rattle.std.specs.Str.{all_ascii_digits}
use Rattle.std.specs.Char.{is_ascii_digit}
use Rattle.std.specs.Fmt.{decimal}
use Rattle.std.proofs.lemmas.Bool.{and_from, and_parts, cases_Bool, eqb-true, le-leb}
use Rattle.std.proofs.lemmas.Bool.Decides.{nat_tests}
use Rattle.std.proofs.lemmas.Fmt.{decimal_nonempty}
use Rattle.std.proofs.Math.Nat.{mul-div_cancel, one-le-pow}
use Rattle.std.proofs.lemmas.Nat.{pow-add}
use Rattle.gtfs_field.specs.Digits.{number, wide, without_last_zeros}
use Rattle.gtfs_field.specs.Kinds.{coordinate_of, is_point, is_sign, is_minus, unsigned_part, has_coordinate_shape, magnitude, are_digits, most_degrees}
use Rattle.gtfs_field.specs.Canonical.{coordinate_text, degrees_text}
use Rattle.gtfs_field.specs.declared.fault.FieldFault.{FieldFault}
use Rattle.gtfs_field.specs.declared.coord.Axis.{Axis}
use Rattle.gtfs_field.specs.declared.coord.Axis.TheVariants.{Longitude}
use Rattle.gtfs_field.proofs.Choices.{shaped-true, within-true, same-value}
use Rattle.gtfs_field.proofs.Coordinates.{digit-no-point, whole_of, fraction_of, shape-around, magnitude-around}
use Rattle.gtfs_field.proofs.Texts.{decimal-digits, number-decimal}
use Rattle.gtfs_field.proofs.Wides.{wide-digits, number-wide}
use Rattle.gtfs_field.proofs.Zeros.{without-digits, length-without, number-without}

digit-no-sign : (b : ℕ) → is_ascii_digit b ≡ true → is_sign b ≡ false
digit-no-sign b digit = grind (arith, nat_tests)

digit-no-minus : (b : ℕ) → is_ascii_digit b ≡ true → is_minus b ≡ false
digit-no-minus b digit = grind (arith, nat_tests)

-- what stands round the first point after digits, and where there is none
around-mark : (ds rest : List ℕ) → all_ascii_digits ds ≡ true → (before_first is_point (ds ++ 46 ∷ rest) ≡ ds) × (after_first is_point (ds ++ 46 ∷ rest) ≡ rest)
around-mark [] rest digits = (refl, refl)
around-mark (d ∷ ds) rest digits =
    let given = and_parts (is_ascii_digit d) (all_ascii_digits ds) digits in
    let other = digit-no-point d given.0 in
    let more = around-mark ds rest given.1 in
    let n = position_or_len is_point (ds ++ 46 ∷ rest) in
    let once : 1 + n ≡ suc n = omega arith in
    let twice : suc n + 1 ≡ suc (n + 1) = omega arith in
    (rw (other, once) (ap (λ t. d ∷ t) more.0), rw (other, once, twice) more.1)

around-none : (ds : List ℕ) → all_ascii_digits ds ≡ true → (before_first is_point (ds ++ []) ≡ ds) × (after_first is_point (ds ++ []) ≡ [])
around-none [] digits = (refl, refl)
around-none (d ∷ ds) digits =
    let given = and_parts (is_ascii_digit d) (all_ascii_digits ds) digits in
    let other = digit-no-point d given.0 in
    let more = around-none ds given.1 in
    let n = position_or_len is_point (ds ++ []) in
    let once : 1 + n ≡ suc n = omega arith in
    let twice : suc n + 1 ≡ suc (n + 1) = omega arith in
    (rw (other, once) (ap (λ t. d ∷ t) more.0), rw (other, once, twice) more.1)

there : (a b : ℕ) → 0 < a → not ((a == 0) && (b == 0)) ≡ true
there a b some = grind (arith, nat_tests)

first : (ds rest : List ℕ) → 0 < length ds → all_ascii_digits ds ≡ true → is_ascii_digit (get_or (ds ++ rest) 0 0) ≡ true
first [] rest some digits = absurd (omega arith)
first (d ∷ ds) rest some digits = (and_parts (is_ascii_digit d) (all_ascii_digits ds) digits).0

fraction_at : ℕ → List ℕ
fraction_at m = without_last_zeros (wide 9 (m % 10 ^ 9))

no_bytes : (t : List ℕ) → length t ≡ 0 → [] ≡ t
no_bytes [] none = refl
no_bytes (b ∷ t) none = absurd (omega arith)

around-text : (m : ℕ) → m ≤ 180_000_000_000 → (whole_of (degrees_text m) ≡ decimal (m / 10 ^ 9)) × (fraction_of (degrees_text m) ≡ fraction_at m)
unfolding fraction_at
around-text m most =
    let digits = decimal-digits (m / 10 ^ 9) (omega arith) in
    let fraction = without_last_zeros (wide 9 (m % 10 ^ 9)) in
    elim (cases_Bool (length fraction == 0)) [
      | inl none ↦
          let around = around-none (decimal (m / 10 ^ 9)) digits in
          (rw none around.0, rw none (around.1 ∙ no_bytes fraction (eqb-true (length fraction) 0 none)))
      | inr some ↦
          let around = around-mark (decimal (m / 10 ^ 9)) fraction digits in
          (rw some around.0, rw some around.1)
    ]

-- the value of a fraction's digits
billionths-from : (f : List ℕ) (r : ℕ) → length f ≤ 9 → number f * 10 ^ (9 - length f) ≡ r → number f * 10 ^ 9 / 10 ^ length f ≡ r
billionths-from f r short value =
    let left = 9 - length f in
    let p = 10 ^ length f in
    let split : 10 ^ 9 ≡ 10 ^ left * p = ap (λ n. 10 ^ n) (let e : 9 ≡ left + length f = omega arith in e) ∙ pow-add 10 left (length f) in
    let regroup : number f * 10 ^ 9 ≡ number f * 10 ^ left * p = rw split (omega arith) in
    rw (regroup, value) (mul-div_cancel r (one-le-pow (length f) 10 (omega arith)))

fraction-value : (m : ℕ) → number (fraction_at m) * 10 ^ 9 / 10 ^ length (fraction_at m) ≡ m % 10 ^ 9
unfolding fraction_at
fraction-value m =
    let r = m % 10 ^ 9 in
    let small : r < 10 ^ 9 = omega arith in
    billionths-from (without_last_zeros (wide 9 r)) r (length-without (wide 9 r)) (sym (number-without (wide 9 r)) ∙ number-wide 9 r small)

are-digits : (m : ℕ) → m ≤ 180_000_000_000 → are_digits (decimal (m / 10 ^ 9)) (fraction_at m) ≡ true
unfolding fraction_at
are-digits m most =
    let some = decimal_nonempty (m / 10 ^ 9) (omega arith) in
    and_from _ _ (there (length (decimal (m / 10 ^ 9))) _ some)
    (and_from _ _ (decimal-digits (m / 10 ^ 9) (omega arith)) (without-digits (wide 9 (m % 10 ^ 9)) (wide-digits 9 (m % 10 ^ 9))))

-- the text of degrees has the shape, and its value is theirs
pub degrees_text-shape : (m : ℕ) → m ≤ 180_000_000_000 → has_coordinate_shape (degrees_text m) ≡ true
degrees_text-shape m most =
    let around = around-text m most in
    shape-around (degrees_text m) ∙ rw (around.0, around.1) (are-digits m most)

pub magnitude-degrees_text : (m : ℕ) → m ≤ 180_000_000_000 → magnitude (degrees_text m) ≡ m
magnitude-degrees_text m most =
    let around = around-text m most in
    let shape : are_digits (whole_of (degrees_text m)) (fraction_of (degrees_text m)) ≡ true = rw (around.0, around.1) (are-digits m most) in
    magnitude-around (degrees_text m) shape
    ∙ rw (around.0, around.1, number-decimal (m / 10 ^ 9) (omega arith), fraction-value m) (omega arith)

first-digit : (m : ℕ) → m ≤ 180_000_000_000 → is_ascii_digit (get_or (degrees_text m) 0 0) ≡ true
first-digit m most = first (decimal (m / 10 ^ 9)) _ (decimal_nonempty (m / 10 ^ 9) (omega arith)) (decimal-digits (m / 10 ^ 9) (omega arith))

abbrev plain : ℕ → Result ℤ FieldFault
plain n = Ok (pos n)

plus : (is_negative : Bool) (k n : ℕ) → is_negative ≡ false → k ≡ n → Ok (if is_negative then neg_ℤ (pos k) else pos k) ≡ plain n
plus is_negative k n positive same = rw (positive, same) refl

-- reading a text with its sign
read-positive : (axis : Axis) (t : List ℕ) (n : ℕ) → is_ascii_digit (get_or t 0 0) ≡ true → has_coordinate_shape t ≡ true → magnitude t ≡ n → n ≤ most_degrees axis * 10 ^ 9 → coordinate_of axis t ≡ Ok (pos n)
read-positive axis t n digit shape value inside =
    let body : unsigned_part t ≡ t = rw (digit-no-sign (get_or t 0 0) digit) refl in
    let m = magnitude (unsigned_part t) in
    let same : m ≡ n = rw body value in
    shaped-true _ _ (rw body shape)
    ∙ within-true _ _ (le-leb m (most_degrees axis * 10 ^ 9) (rw same inside))
    ∙ plus (is_minus (get_or t 0 0)) m n (digit-no-minus (get_or t 0 0) digit) same

read-negative : (axis : Axis) (t : List ℕ) (n : ℕ) → has_coordinate_shape t ≡ true → magnitude t ≡ suc n → suc n ≤ most_degrees axis * 10 ^ 9 → coordinate_of axis (45 ∷ t) ≡ Ok (negsuc n)
read-negative axis t n shape value inside =
    shaped-true _ _ shape
    ∙ within-true _ _ (le-leb (magnitude t) (most_degrees axis * 10 ^ 9) (rw value inside))
    ∙ ap (λ k. Ok (neg_ℤ (pos k))) value

no-sign : (n : ℕ) (t : List ℕ) → (if int_lt (pos n) (pos 0) then 45 ∷ [] else []) ++ t ≡ t
no-sign n t = let plus : int_lt (pos n) (pos 0) ≡ false = grind (arith, nat_tests) in rw plus refl

-- a coordinate reads back on an axis that has it
pub coordinate_of-text : (axis : Axis) (v : ℤ) → unsigned_abs v ≤ 180_000_000_000 → unsigned_abs v ≤ most_degrees axis * 10 ^ 9 → coordinate_of axis (coordinate_text v) ≡ Ok v
coordinate_of-text axis (pos n) most inside =
    ap (coordinate_of axis) (no-sign n (degrees_text n))
    ∙ read-positive axis (degrees_text n) n (first-digit n most) (degrees_text-shape n most) (magnitude-degrees_text n most) inside
coordinate_of-text axis (negsuc n) most inside =
    read-negative axis (degrees_text (suc n)) n (degrees_text-shape (suc n) most) (magnitude-degrees_text (suc n) most) inside

pub coordinate_text-unique : (u v : ℤ) → unsigned_abs u ≤ 180_000_000_000 → unsigned_abs v ≤ 180_000_000_000 → coordinate_text u ≡ coordinate_text v → u ≡ v
coordinate_text-unique u v most-u most-v same =
    same-value (coordinate_of Longitude) (coordinate_of-text Longitude u most-u most-u) (coordinate_of-text Longitude v most-v most-v) same

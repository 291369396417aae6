-- Numbers of a fixed width.
use Rattle.std.proofs.Common.{◌≡◌, ℕ, zero, suc, ◌+◌, ◌-◌, ◌/◌, ◌%◌, ◌^◌, ◌<◌, ◌≤◌, true, List, [], ◌∷◌, ◌++◌, length, take, drop, replicate, arith, refl, sym, ap, ◌∙◌, inl, inr, length-append, append_assoc}
use Rattle.std.specs.Str.{all_ascii_digits}
use Rattle.std.specs.Str.Parse.{AllDigits}
use Rattle.std.specs.Char.{digit_value}
use Rattle.std.specs.Fmt.{decimal}
use Rattle.std.proofs.lemmas.Bool.{cases_lt}
use Rattle.std.proofs.lemmas.Bool.Decides.{nat_tests}
use Rattle.std.proofs.lemmas.Int.Digits.{digits_value_push, digits_push}
use Rattle.std.proofs.lemmas.Fmt.{decimal_digit, decimal_step, length-decimal-le}
use Rattle.std.proofs.lemmas.List.{length-replicate, replicate_more, take-append-drop, take-append-le, take-replicate, length-take, length-drop, drop-drop}
use borrow.Rule.Slice.PartMut.{put_mid}
use Rattle.std.proofs.Math.Seq.{take-append-add, drop-append-add, drop-append_seam}
use Rattle.std.proofs.Math.Nat.{pow-suc, div-add-mod'}
use Rattle.gtfs_field.specs.Digits.{number, wide}
use Rattle.gtfs_field.proofs.Numerals.{numerals}

glyph : (d : ℕ) → d < 10 → digit_value (48 + d) ≡ d
glyph d small = grind (arith, nat_tests)

pub length-wide : (k n : ℕ) → length (wide k n) ≡ k
length-wide zero n = refl
length-wide (suc k) n = omega (arith, length-append (wide k (n / 10)) ((48 + n % 10) ∷ []), length-wide k (n / 10))

wide-digits_from : (k n : ℕ) → AllDigits 10 (wide k n)
wide-digits_from zero n = tt
wide-digits_from (suc k) n =
    let d : n % 10 < 10 = omega arith in
    let small : digit_value (48 + n % 10) < 10 = rw (glyph (n % 10) d) d in
    digits_push 10 (wide k (n / 10)) (48 + n % 10) (wide-digits_from k (n / 10)) small

pub wide-digits : (k n : ℕ) → all_ascii_digits (wide k n) ≡ true
wide-digits k n = numerals.from _ (wide-digits_from k n)

-- a number that fits its width is what its digits write
pub number-wide : (k n : ℕ) → n < 10 ^ k → number (wide k n) ≡ n
number-wide zero n small = omega arith
number-wide (suc k) n small =
    let front : n / 10 < 10 ^ k = let p = 10 ^ k in omega (arith, pow-suc 10 k) in
    let d : n % 10 < 10 = omega arith in
    rw (digits_value_push 10 (wide k (n / 10)) (48 + n % 10), number-wide k (n / 10) front, glyph (n % 10) d) (div-add-mod' n 10)

wide-zeros : (k : ℕ) → wide k 0 ≡ replicate k 48
wide-zeros zero = refl
wide-zeros (suc k) = rw (wide-zeros k) (replicate_more k 48 ∙ ap (λ m. replicate m 48) (let e : k + 1 ≡ suc k = omega arith in e))

wide-one : (k n : ℕ) → n < 10 → wide (suc k) n ≡ replicate (suc k - length (decimal n)) 48 ++ decimal n
wide-one k n one =
    let none : n / 10 ≡ 0 = omega arith in
    let same : n % 10 ≡ n = omega arith in
    let width_is : suc k - 1 ≡ k = omega arith in
    rw (none, wide-zeros k, same, decimal_digit n one, width_is) refl

-- the digits of a number with zeros in front
pub wide-decimal : (k n : ℕ) → n < 10 ^ suc k → n < 2 ^ 64 → wide (suc k) n ≡ replicate (suc k - length (decimal n)) 48 ++ decimal n
wide-decimal zero n small fits = wide-one zero n (omega arith)
wide-decimal (suc k) n small fits = elim (cases_lt n 10) [
  | inl one ↦ wide-one (suc k) n one
  | inr more ↦
      let p = 10 ^ suc k in
      let front : n / 10 < 10 ^ suc k = omega (arith, pow-suc 10 (suc k)) in
      let fewer : suc (suc k) - length (decimal n) ≡ suc k - length (decimal (n / 10)) =
      rw (decimal_step n more fits, length-append (decimal (n / 10)) ((48 + n % 10) ∷ [])) (omega arith) in
      rw (wide-decimal k (n / 10) front (omega arith), fewer, decimal_step n more fits) (append_assoc (replicate (suc k - length (decimal (n / 10))) 48) (decimal (n / 10)) ((48 + n % 10) ∷ []))
]

-- digits written over zeros
pub wide-written : (front back zeroed new : List ℕ) (width n start end : ℕ) → 0 < width → n < 10 ^ width → n < 2 ^ 64 → length front + width ≡ end → zeroed ≡ front ++ (replicate width 48 ++ back) → start + length (decimal n) ≡ end
    → drop start new ≡ decimal n ++ drop end zeroed → take start new ≡ take start zeroed → new ≡ front ++ (wide width n ++ back)
wide-written front back zeroed new zero n start end some-width small fits width_is zeros starts written before = absurd (omega arith)
wide-written front back zeroed new (suc k) n start end some-width small fits width_is zeros starts written before =
    let zeroes : List ℕ = replicate (suc k) 48 in
    let m = suc k - length (decimal n) in
    let short : length (decimal n) ≤ suc k = length-decimal-le (suc k) n (omega arith) small fits in
    let at : start ≡ length front + m = omega arith in
    let count : length zeroes ≡ suc k = length-replicate (suc k) 48 in
    let some : m ≤ length zeroes = omega arith in
    let head : take start zeroed ≡ front ++ replicate m 48 =
    rw (zeros, at, take-append-add front (zeroes ++ back) m, take-append-le m zeroes back some, take-replicate {X = ℕ} m (suc k) 48 (omega arith)) refl in
    let tail : drop end zeroed ≡ back =
    rw (zeros, ← width_is, ← count, drop-append-add front (zeroes ++ back) (length zeroes)) (drop-append_seam zeroes back) in
    let whole : take start new ++ drop start new ≡ (front ++ replicate m 48) ++ (decimal n ++ back) = rw (written, before, head, tail) refl in
    let regroup : (front ++ replicate m 48) ++ (decimal n ++ back) ≡ front ++ ((replicate m 48 ++ decimal n) ++ back) = simp append_assoc in
    sym (take-append-drop start new) ∙ whole ∙ regroup ∙ ap (λ w. front ++ (w ++ back)) (sym (wide-decimal k n small fits))

-- a field of zeros in place of what stood there
pub zeroed-field : (bytes filled : List ℕ) (width end : ℕ) → width ≤ end → end ≤ length bytes → filled ≡ replicate (length (take (end - (end - width)) (drop (end - width) bytes))) 48
    → put_mid (end - width) (end - (end - width)) bytes filled ≡ take (end - width) bytes ++ (replicate width 48 ++ drop end bytes)
zeroed-field bytes filled width end within inside zeros =
    let start = end - width in
    let width_is : length (take (end - start) (drop start bytes)) ≡ width = simp (length-take, length-drop) (omega arith) in
    let past : drop (end - start) (drop start bytes) ≡ drop end bytes = drop-drop (end - start) start bytes ∙ ap (λ m. drop m bytes) (let e : start + (end - start) ≡ end = omega arith in e) in
    rw (zeros, width_is, past) refl

pub length-zeroed : (bytes : List ℕ) (width end : ℕ) → width ≤ end → end ≤ length bytes → length (take (end - width) bytes ++ (replicate width 48 ++ drop end bytes)) ≡ length bytes
length-zeroed bytes width end within inside =
    simp (length-append, length-take, length-drop, length-replicate) (omega arith)

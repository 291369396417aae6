-- Digits without the zeros at their end.
use Rattle.std.proofs.Common.{◌≡◌, ◌≢◌, ℕ, zero, suc, ◌+◌, ◌-◌, ◌*◌, ◌^◌, ◌<◌, ◌≤◌, ◌&&◌, ◌==◌, true, false, List, [], ◌∷◌, ◌++◌, length, take, drop, replicate, get_or, arith, refl, sym, ap, ◌∙◌, inl, inr, length-append, lit≤}
use Rattle.std.proofs.lemmas.Bool.{and_right, and_from, cases_Bool, and_parts, eqb-true}
use Rattle.std.specs.Str.Parse.{digits_value_after}
use Rattle.std.proofs.Math.Nat.{pow-suc}
use Rattle.gtfs_field.proofs.Coordinates.{number-append}
use Rattle.std.specs.Str.{all_ascii_digits}
use Rattle.std.specs.Char.{is_ascii_digit}
use Rattle.std.proofs.lemmas.Bool.Decides.{nat_tests}
use Rattle.std.proofs.lemmas.List.{take-append-drop, length-replicate}
use Rattle.std.proofs.Math.Seq.{drop-cons}
use Rattle.std.proofs.Math.ListN.{drop_of_length-le}
use Rattle.gtfs_field.specs.Digits.{without_last_zeros, number}
use Rattle.gtfs_field.proofs.NumberFacts.{suc-not_zero}

-- a zero at the end goes
last-zero : (xs : List ℕ) → without_last_zeros (xs ++ 48 ∷ []) ≡ without_last_zeros xs
last-zero [] = refl
last-zero (x ∷ xs) = rw (last-zero xs) refl

some-length : (xs : List ℕ) (d : ℕ) → (length (xs ++ d ∷ []) == 0) ≡ false
some-length xs d =
    let more : length (xs ++ d ∷ []) ≡ suc (length xs) = omega (arith, length-append xs (d ∷ [])) in rw more (suc-not_zero (length xs))

not-zero : (d : ℕ) → d ≢ 48 → (d == 48) ≡ false
not-zero d other = grind (arith, nat_tests)

-- another digit at the end stays, and all before it
last-other : (xs : List ℕ) (d : ℕ) → d ≢ 48 → without_last_zeros (xs ++ d ∷ []) ≡ xs ++ d ∷ []
last-other [] d other = rw (not-zero d other) refl
last-other (x ∷ xs) d other = rw (last-other xs d other, and_right (x == 48) _ (some-length xs d)) refl

-- a text and its last byte
split-last : (t : List ℕ) → 0 < length t → t ≡ take (length t - 1) t ++ get_or t (length t - 1) 0 ∷ []
split-last t there =
    let n = length t - 1 in
    let last : n < length t = omega arith in
    let past : drop (suc n) t ≡ [] = drop_of_length-le t {i = suc n} (omega arith) in
    sym (take-append-drop n t) ∙ rw (drop-cons t n 0 last, past) refl

pub without-last : (t : List ℕ) → 0 < length t → get_or t (length t - 1) 0 ≡ 48 → without_last_zeros (take (length t - 1) t) ≡ without_last_zeros t
without-last t there zero-last = sym (ap without_last_zeros (split-last t there) ∙ rw zero-last (last-zero (take (length t - 1) t)))

pub without-none : (t : List ℕ) → 0 < length t → get_or t (length t - 1) 0 ≢ 48 → without_last_zeros t ≡ t
without-none t there other = ap without_last_zeros (split-last t there) ∙ last-other (take (length t - 1) t) (get_or t (length t - 1) 0) other ∙ sym (split-last t there)

-- what a loop that takes zeros off the end needs
pub ruleset last_zeros = (without-last, without-none)

-- digits stay digits
pub without-digits : (t : List ℕ) → all_ascii_digits t ≡ true → all_ascii_digits (without_last_zeros t) ≡ true
without-digits [] digits = refl
without-digits (d ∷ t) digits =
    let given = and_parts (is_ascii_digit d) (all_ascii_digits t) digits in
    elim (cases_Bool ((d == 48) && (length (without_last_zeros t) == 0))) [
      | inl gone ↦ rw gone refl
      | inr stays ↦ rw stays (and_from _ _ given.0 (without-digits t given.1))
    ]

pub length-without : (t : List ℕ) → length (without_last_zeros t) ≤ length t
length-without [] = lit≤ tt
length-without (d ∷ t) =
    let fewer = length-without t in
    elim (cases_Bool ((d == 48) && (length (without_last_zeros t) == 0))) [
      | inl gone ↦ rw gone (omega arith)
      | inr stays ↦ rw stays (omega arith)
    ]

no-front : (xs : List ℕ) (m n : ℕ) → length xs ≡ 0 → m ≡ n → xs ++ replicate m 48 ≡ replicate n 48
no-front [] m n none same = ap (λ k. replicate k 48) same
no-front (x ∷ xs) m n none same = absurd (omega arith)

-- a text is what is left of it, and zeros
trailing : (t : List ℕ) → t ≡ without_last_zeros t ++ replicate (length t - length (without_last_zeros t)) 48
trailing [] = refl
trailing (d ∷ t) =
    let rest = without_last_zeros t in
    elim (cases_Bool ((d == 48) && (length rest == 0))) [
      | inl gone ↦
          let given = and_parts (d == 48) (length rest == 0) gone in
          let zero-digit : d ≡ 48 = eqb-true d 48 given.0 in
          let none : length rest ≡ 0 = eqb-true (length rest) 0 given.1 in
          let zeros : t ≡ replicate (length t) 48 = trailing t ∙ no-front rest _ _ none (omega arith) in
          rw gone (rw zero-digit (ap (λ r. 48 ∷ r) zeros ∙ ap (λ n. replicate n 48) (let e : suc (length t) ≡ suc (length t) - 0 = omega arith in e)))
      | inr stays ↦
          let positions : suc (length t) - suc (length rest) ≡ length t - length rest = omega arith in
          rw stays (rw positions (ap (λ r. d ∷ r) (trailing t)))
    ]

zeros-value : (n k : ℕ) → digits_value_after 10 n (replicate k 48) ≡ n * 10 ^ k
zeros-value n zero = omega arith
zeros-value n (suc k) = zeros-value (n * 10 + 0) k ∙ (rw (pow-suc 10 k) (omega arith))

-- the digits that are left, at their positions
pub number-without : (t : List ℕ) → number t ≡ number (without_last_zeros t) * 10 ^ (length t - length (without_last_zeros t))
number-without t =
    let rest = without_last_zeros t in
    let k = length t - length rest in
    let none : number (replicate k 48) ≡ 0 = zeros-value 0 k ∙ omega arith in
    ap number (trailing t) ∙ number-append rest (replicate k 48) ∙ rw (none, (let e : length (replicate {A = ℕ} k 48) ≡ k = length-replicate k 48 in e)) (omega arith)

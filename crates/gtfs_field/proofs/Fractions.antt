-- The first nine digits of a fraction, a digit at a time.
use Rattle.std.proofs.Common.{◌≡◌, ℕ, suc, ◌+◌, ◌-◌, ◌*◌, ◌/◌, ◌^◌, ◌<◌, ◌≤◌, arith, refl, inl, inr, add-one}
use Rattle.std.proofs.Math.Nat.{mul-div_cancel, mul-div_cancel_left, div-div-eq-div-mul, mul-le-mul_right, pow-suc, one-le-pow, div_self, div-le_self}
use Rattle.std.proofs.lemmas.Nat.{pow-add, div-mul-add}
use Rattle.std.proofs.lemmas.Bool.{cases_lt}

-- a digit within the nine
exact : (whole q s n d : ℕ) → 0 < q → q * (s * 10) ≡ whole → (n * 10 + d) * whole / (q * 10) ≡ n * whole / q + d * (whole / q / 10)
exact whole q s n d positive product =
    let here : whole / q ≡ s * 10 = rw (← product) (mul-div_cancel_left (s * 10) positive) in
    let part : whole / q / 10 ≡ s = rw here (mul-div_cancel s (omega arith)) in
    let before : n * whole / q ≡ n * (s * 10) = rw ((let e : n * whole ≡ n * (s * 10) * q = rw (← product) (omega arith) in e)) (mul-div_cancel (n * (s * 10)) positive) in
    let after : (n * 10 + d) * whole / (q * 10) ≡ (n * 10 + d) * s = rw ((let e : (n * 10 + d) * whole ≡ (n * 10 + d) * s * (q * 10) = rw (← product) (omega arith) in e)) (mul-div_cancel ((n * 10 + d) * s) (omega arith)) in
    rw (part, before, after) (omega arith)

-- a digit past the nine
past : (whole t n d : ℕ) → 0 < whole → 0 < t → d < 10 → (n * 10 + d) * whole / (whole * t * 10) ≡ n * whole / (whole * t) + d * (whole / (whole * t) / 10)
past whole t n d there positive digit =
    let once : whole / whole ≡ 1 = div_self there in
    let most : 1 / t ≤ 1 = div-le_self 1 t in
    let none : whole / (whole * t) / 10 ≡ 0 = rw (← div-div-eq-div-mul whole whole t, once) (omega arith) in
    let before : n * whole / (whole * t) ≡ n / t = rw (← div-div-eq-div-mul (n * whole) whole t, mul-div_cancel n there) refl in
    let shape : whole * t * 10 ≡ whole * (10 * t) = omega arith in
    let after : (n * 10 + d) * whole / (whole * t * 10) ≡ n / t =
    rw (shape, ← div-div-eq-div-mul ((n * 10 + d) * whole) whole (10 * t), mul-div_cancel (n * 10 + d) there, ← div-div-eq-div-mul (n * 10 + d) 10 t, div-mul-add n 10 d digit) refl in
    rw (none, before, after) (omega arith)

-- one more digit of a fraction
pub billionths-more : (n d i : ℕ) → d < 10 → (n * 10 + d) * 10 ^ 9 / 10 ^ (i + 1) ≡ n * 10 ^ 9 / 10 ^ i + d * (10 ^ 9 / 10 ^ i / 10)
billionths-more n d i digit = elim (cases_lt i 9) [
  | inl early ↦
      let rest = 8 - i in
      let whole : 10 ^ i * (10 ^ rest * 10) ≡ 10 ^ 9 = rw (← pow-suc 10 rest, ← pow-add 10 i (suc rest), (let e : i + suc rest ≡ 9 = omega arith in e)) refl in
      rw (add-one, pow-suc 10 i) (exact (10 ^ 9) (10 ^ i) (10 ^ rest) n d (one-le-pow i 10 (omega arith)) whole)
  | inr late ↦
      let rest = i - 9 in
      let whole : 10 ^ i ≡ 10 ^ 9 * 10 ^ rest = rw (← pow-add 10 9 rest, (let e : 9 + rest ≡ i = omega arith in e)) refl in
      rw (add-one, pow-suc 10 i, whole) (past (10 ^ 9) (10 ^ rest) n d (omega arith) (one-le-pow rest 10 (omega arith)) digit)
]

-- the weight of the next digit
pub weight-more : (i : ℕ) → 10 ^ 9 / 10 ^ i / 10 ≡ 10 ^ 9 / 10 ^ (i + 1)
weight-more i = rw (add-one, pow-suc 10 i) (div-div-eq-div-mul (10 ^ 9) (10 ^ i) 10)

-- a digit adds at most nine of its weights
pub bound-more : (b w d : ℕ) → d < 10 → b + w ≤ 10 ^ 9 → b + d * (w / 10) + w / 10 ≤ 10 ^ 9
bound-more b w d digit before =
    let most : d * (w / 10) ≤ 9 * (w / 10) = mul-le-mul_right (w / 10) (omega arith) in omega (arith, most)

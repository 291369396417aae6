-- Parts of a way, cut to whole seconds.
use Rattle.std.proofs.Common.{◌*◌, ◌/◌, ◌<◌, ◌≤◌, ℕ, subst}
use Rattle.std.proofs.Math.Nat.{le-div_iff_mul-le, div-mul-le_self, mul-div_cancel, mul-le-mul_left, le_trans}

-- more of the way takes no less
pub part-rises : (c b e n : ℕ) → 0 < n → b ≤ e → (c * b) / n ≤ (c * e) / n
part-rises c b e n some more = (le-div_iff_mul-le some).1 (le_trans (div-mul-le_self (c * b) n) (mul-le-mul_left c more))

-- a part of the way takes no more than the whole
pub part-within : (c b n : ℕ) → 0 < n → b ≤ n → (c * b) / n ≤ c
part-within c b n some part = subst (λ x. (c * b) / n ≤ x) (mul-div_cancel c some) (part-rises c b n n some part)

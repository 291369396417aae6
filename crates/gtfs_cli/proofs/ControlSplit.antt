-- A text is told with a space in place of each control character.
use Rattle.std.proofs.Common.{◌≡◌, ◌∙◌, ap, sym, refl, ℕ, suc, ◌+◌, ◌<◌, if◌then◌else◌, cond, Bool, true, false, List, [], ◌∷◌, ◌++◌, length, take, drop, Option, Some, None, arith}
use Rattle.std.specs.List.{position_from}
use Rattle.gtfs_table.specs.Blanks.{is_control}
use Rattle.gtfs_schema.specs.FieldValues.{plain}

-- a text up to its first control character, a space for that, and what follows
split : (k : ℕ) (xs : List ℕ) (at : ℕ) → position_from is_control k xs ≡ Some at
    → (j : ℕ) × (at ≡ k + j) × (j < length xs) × (plain xs ≡ take j xs ++ (32 ∷ plain (drop (suc j) xs)))
split k [] at e = cc e
split k (x ∷ xs) at e = step (is_control x) refl e (split (k + 1) xs at)
  where
    step : (b : Bool) → is_control x ≡ b → cond b (Some k) (position_from is_control (k + 1) xs) ≡ Some at
        → (position_from is_control (k + 1) xs ≡ Some at → (j : ℕ) × (at ≡ k + 1 + j) × (j < length xs) × (plain xs ≡ take j xs ++ (32 ∷ plain (drop (suc j) xs))))
        → (j : ℕ) × (at ≡ k + j) × (j < suc (length xs)) × (plain (x ∷ xs) ≡ take j (x ∷ xs) ++ (32 ∷ plain (drop (suc j) (x ∷ xs))))
    step true here found later =
        let same : Some k ≡ Some at = found in
        let at_is : k ≡ at = cc in
        (0, omega (arith, at_is), omega arith, ap (λ (c : Bool). (if c then 32 else x) ∷ plain xs) here)
    step false here found later =
        let r = later found in
        (suc r.0, omega (arith, r.1), omega (arith, r.2), ap (λ (c : Bool). (if c then 32 else x) ∷ plain xs) here ∙ ap (λ (t : List ℕ). x ∷ t) r.3)

-- a text without control characters
none-shown : (k : ℕ) (xs : List ℕ) → position_from is_control k xs ≡ None → plain xs ≡ xs
none-shown k [] e = refl
none-shown k (x ∷ xs) e = step (is_control x) refl e (none-shown (k + 1) xs)
  where
    step : (b : Bool) → is_control x ≡ b → cond b (Some k) (position_from is_control (k + 1) xs) ≡ None → (position_from is_control (k + 1) xs ≡ None → plain xs ≡ xs)
        → plain (x ∷ xs) ≡ x ∷ xs
    step true here found later = cc found
    step false here found later = ap (λ (c : Bool). (if c then 32 else x) ∷ plain xs) here ∙ ap (λ (t : List ℕ). x ∷ t) (later found)

pub split-at : (xs : List ℕ) (at : ℕ) → Some at ≡ position_from is_control 0 xs → plain xs ≡ take at xs ++ (32 ∷ plain (drop (at + 1) xs))
split-at xs at is =
    let r = split 0 xs at (sym is) in
    let j : r.0 ≡ at = omega (arith, r.1) in
    let next : suc at ≡ at + 1 = omega arith in
    r.3 ∙ ap (λ (n : ℕ). take n xs ++ (32 ∷ plain (drop (suc n) xs))) j ∙ ap (λ (n : ℕ). take at xs ++ (32 ∷ plain (drop n xs))) next

pub none-found : (xs : List ℕ) (found : Option ℕ) → found ≡ position_from is_control 0 xs → ((at : ℕ) → found ≡ Some at → ⊥) → plain xs ≡ xs
none-found xs None is never = none-shown 0 xs (sym is)
none-found xs (Some at) is never = absurd (never at refl)

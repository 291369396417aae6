-- Texts with a space in place of each control character.
use Rattle.std.proofs.Common.{◌≡◌, ◌∙◌, ap, sym, refl, false, ℕ, suc, inl, inr, ◌+◌, ◌<◌, ◌≤◌, ◌++◌, ◌∷◌, List, [], get_or, if◌then◌else◌, length, length-append, append-nil, arith}
use Rattle.std.specs.Prelude.{encode_utf8}
use Rattle.std.proofs.lemmas.Bool.{cases_lt, or_parts}
use Rattle.std.proofs.lemmas.Grind.{common_steps}
use Rattle.std.proofs.lemmas.List.{length-map, map-append}
use Rattle.std.proofs.lemmas.Str.{encode_ascii, inside_one}
use Rattle.gtfs_table.specs.Blanks.{is_control}
use Rattle.gtfs_schema.specs.FieldValues.{has_control, plain}

-- a space for a control character, and any other as it is
abbrev pub shown : ℕ → ℕ
shown c = if is_control c then 32 else c

shown-high : (c : ℕ) → 128 ≤ c → shown c ≡ c
shown-high c high = grind (arith, common_steps)

shown-low : (c : ℕ) → c < 128 → shown c < 128
shown-low c low = grind (arith, common_steps)

plain-high : (bs : List ℕ) → ((k : ℕ) → k < length bs → 128 ≤ get_or bs k 0) → plain bs ≡ bs
plain-high [] high = refl
plain-high (b ∷ bs) high =
    let here = shown-high b (high 0 (omega arith)) in
    let there = plain-high bs (λ k l. high (suc k) (omega arith)) in
    ap (λ x. x ∷ plain bs) here ∙ ap (λ xs. b ∷ xs) there

-- no byte of such a character is ASCII
pub high-bytes : (c : ℕ) → 128 ≤ c → (k : ℕ) → k < length (encode_utf8 c) → 128 ≤ get_or (encode_utf8 c) k 0
high-bytes c high k l = elim (cases_lt (get_or (encode_utf8 c) k 0) 128) [
  | inl low ↦ absurd (let same = inside_one c [] (encode_utf8 c) k (sym (append-nil (encode_utf8 c))) l low in omega (arith, same))
  | inr h ↦ h
]

plain-encode : (c : ℕ) → plain (encode_utf8 c) ≡ encode_utf8 (shown c)
plain-encode c = elim (cases_lt c 128) [
  | inl low ↦ ap plain (encode_ascii c low) ∙ sym (encode_ascii (shown c) (shown-low c low))
  | inr high ↦ plain-high (encode_utf8 c) (high-bytes c high) ∙ ap encode_utf8 (sym (shown-high c high))
]

-- a text after its first character, which is shown as d
pub plain-past : (name later : List ℕ) (c d : ℕ) → name ≡ encode_utf8 c ++ later → d ≡ shown c → plain name ≡ encode_utf8 d ++ plain later
plain-past name later c d first is =
    ap plain first ∙ map-append shown (encode_utf8 c) later ∙ ap (λ xs. xs ++ plain later) (plain-encode c ∙ ap encode_utf8 (sym is))

pub length-past : (name later : List ℕ) (c d : ℕ) → name ≡ encode_utf8 c ++ later → d ≡ shown c → length name ≡ length (encode_utf8 d) + length later
length-past name later c d first is =
    ap length first ∙ length-append (encode_utf8 c) later
    ∙ ap (λ n. n + length later) (sym (length-map (encode_utf8 c) shown) ∙ ap length (plain-encode c ∙ ap encode_utf8 (sym is)))

-- a text without control characters stands as it is
pub plain-itself : (t : List ℕ) → has_control t ≡ false → plain t ≡ t
plain-itself [] none = refl
plain-itself (b ∷ bs) none =
    let parts = or_parts (is_control b) (has_control bs) none in
    let here : shown b ≡ b = rw parts.0 refl in
    ap (λ x. x ∷ plain bs) here ∙ ap (λ xs. b ∷ xs) (plain-itself bs parts.1)

-- what has none stays as it is
shown-shown : (c : ℕ) → shown (shown c) ≡ shown c
shown-shown c = grind (arith, common_steps)

pub plain-plain : (t : List ℕ) → plain (plain t) ≡ plain t
plain-plain [] = refl
plain-plain (b ∷ bs) = λ i. shown-shown b i ∷ plain-plain bs i

-- Quotes in a field, character by character.
use Rattle.std.proofs.Common.{◌≡◌, ◌∙◌, ap, sym, refl, ℕ, suc, inl, inr, ◌<◌, ◌≤◌, ◌++◌, ◌∷◌, ◌==◌, List, [], get_or, length, arith, false}
use Rattle.std.specs.Prelude.{encode_utf8}
use Rattle.std.proofs.lemmas.Bool.{cases_lt, ne_eqb}
use Rattle.std.proofs.lemmas.Str.{encode_ascii}
use Rattle.csv.specs.Writing.{default_writer, escaped}
use Rattle.gtfs_table.proofs.WriteFacts.{escaped-append}
use Rattle.gtfs_schema.proofs.PlainTexts.{high-bytes}

escaped-high : (bs : List ℕ) → ((k : ℕ) → k < length bs → 128 ≤ get_or bs k 0) → escaped default_writer bs ≡ bs
unfolding escaped
escaped-high [] high = refl
escaped-high (b ∷ bs) high =
    let big = high 0 (omega arith) in
    let other : (b == 34) ≡ false = ne_eqb b 34 (λ e. omega (arith, big, e)) in
    rw (other, escaped-high bs (λ k l. high (suc k) (omega arith))) refl

-- a quote stands twice
pub doubled-quote : escaped default_writer (encode_utf8 34) ≡ 34 ∷ 34 ∷ []
unfolding escaped
doubled-quote = ap (escaped default_writer) (encode_ascii 34 (omega arith))

-- another character stands once
pub doubled-other : (c : ℕ) → (c == 34) ≡ false → escaped default_writer (encode_utf8 c) ≡ encode_utf8 c
unfolding escaped
doubled-other c other = elim (cases_lt c 128) [
  | inl low ↦ ap (escaped default_writer) (encode_ascii c low) ∙ rw other (sym (encode_ascii c low))
  | inr high ↦ escaped-high (encode_utf8 c) (high-bytes c high)
]

-- a field after its first character
pub escaped-past : (field later : List ℕ) (c : ℕ) → field ≡ encode_utf8 c ++ later → escaped default_writer field ≡ escaped default_writer (encode_utf8 c) ++ escaped default_writer later
escaped-past field later c first = ap (escaped default_writer) first ∙ escaped-append (encode_utf8 c) later

-- nothing is left
pub escaped-none : (field : List ℕ) → length field ≡ 0 → escaped default_writer field ≡ []
unfolding escaped
escaped-none [] none = refl
escaped-none (b ∷ bs) none = absurd (omega (arith, none))

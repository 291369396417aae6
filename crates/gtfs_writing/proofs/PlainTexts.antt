-- Texts that need no quotes, as counts and the ids of most stops.
use Rattle.std.proofs.Common.{◌≡◌, ◌∙◌, ℕ, zero, suc, map, ◌/◌, ◌%◌, ◌+◌, ◌^◌, ◌<◌, ◌≤◌, ◌∷◌, ◌++◌, List, [], drop, false, true, ap, refl, arith}
use Rattle.std.specs.Char.{is_ascii_digit}
use Rattle.std.specs.Fmt.{decimal}
use Rattle.std.specs.List.{list_all}
use Rattle.std.specs.Str.{all_ascii_digits, IsAscii}
use Rattle.std.proofs.lemmas.Bool.{and_parts, not-true}
use Rattle.std.proofs.lemmas.Bool.Decides.{nat_tests}
use Rattle.std.proofs.lemmas.Fmt.{IsAscii-decimal, decimal_digit, decimal_step}
use Rattle.std.proofs.lemmas.Str.Ascii.{IsAscii-cons}
use Rattle.csv.specs.Writing.{comma, default_writer, field_text, fields_text, needs_byte, needs_quotes}
use Rattle.gtfs_field.specs.Canonical.{count_text}
use Rattle.gtfs_field.proofs.Numerals.{digit-bounds}
use Rattle.gtfs_field.proofs.Texts.{decimal-digits}
use Rattle.gtfs_rows.specs.declared.parts.Parts.{Parts}
use Rattle.gtfs_rows.specs.declared.stop.Stop.{Stop}
use Rattle.gtfs_rows.specs.RowsInMemory.{stop_ids, text_of_number}
use Rattle.gtfs_writing.specs.PlainStops.{is_plain_stop}

-- two digits of a count below a hundred
pub two-digits : (n tens ones : ℕ) → 10 ≤ n → n < 100 → tens ≡ 48 + n / 10 % 10 → ones ≡ 48 + n % 10 → tens ∷ ones ∷ [] ≡ count_text n
two-digits n tens ones ten hundred first last =
    let small : n / 10 < 10 = omega arith in
    let same : n / 10 % 10 ≡ n / 10 = omega arith in
    let front : tens ≡ 48 + n / 10 = first ∙ ap (λ d. 48 + d) same in
    rw (decimal_step n ten (omega arith), decimal_digit (n / 10) small, front, last) refl

digit-plain : (b : ℕ) → is_ascii_digit b ≡ true → needs_byte default_writer b ≡ false
digit-plain b h = let bounds = digit-bounds b h in grind (arith, nat_tests)

pub digits-plain : (t : List ℕ) → all_ascii_digits t ≡ true → needs_quotes default_writer t ≡ false
digits-plain [] h = refl
digits-plain (b ∷ t) h =
    let parts = and_parts (is_ascii_digit b) (all_ascii_digits t) h in
    rw (digit-plain b parts.0) (digits-plain t parts.1)

-- the text of a count needs no quotes
pub count-plain : (n : ℕ) (t : List ℕ) → n < 2 ^ 64 → t ≡ count_text n → needs_quotes default_writer t ≡ false
count-plain n t fits is = ap (needs_quotes default_writer) is ∙ digits-plain (decimal n) (decimal-digits n fits)

-- the same with a comma before it
pub comma-ascii : (n : ℕ) (t : List ℕ) → n < 2 ^ 64 → t ≡ comma ∷ count_text n → IsAscii t
comma-ascii n t fits is = rw is (IsAscii-cons comma (count_text n) (omega arith) (IsAscii-decimal n fits))

pub comma-plain : (n : ℕ) (t : List ℕ) → n < 2 ^ 64 → t ≡ comma ∷ count_text n → needs_quotes default_writer (drop 1 t) ≡ false
comma-plain n t fits is = count-plain n (drop 1 t) fits (ap (drop 1) is)

-- ---- ids of stops

plain-at : (ss : List Stop) (n : ℕ) → list_all is_plain_stop ss ≡ true → needs_quotes default_writer (text_of_number (map (λ s. s.stop_id) ss) n) ≡ false
plain-at [] n all = refl
plain-at (s ∷ ss) zero all = not-true (needs_quotes default_writer s.stop_id) ((and_parts (is_plain_stop s) (list_all is_plain_stop ss) all).0)
plain-at (s ∷ ss) (suc n) all = plain-at ss n ((and_parts (is_plain_stop s) (list_all is_plain_stop ss) all).1)

-- where no stop's id needs quotes, that of no number does
pub plain-stop : (p : Parts) (n : ℕ) (t : List ℕ) → t ≡ text_of_number (stop_ids p) n → list_all is_plain_stop p.stops ≡ true → needs_quotes default_writer t ≡ false
plain-stop p n t is all = ap (needs_quotes default_writer) is ∙ plain-at p.stops n all

-- ---- the choices at the end of a stop time

-- a digit as a field
field-of-digit : (n : ℕ) → n < 10 → field_text default_writer (count_text n) ≡ (48 + n % 10) ∷ []
field-of-digit n small =
    let same : n ≡ n % 10 = omega (arith, small) in
    rw (count-plain n (count_text n) (omega (arith, small)) refl) (decimal_digit n small ∙ ap (λ d. (48 + d) ∷ []) same)

pub choices-text : (p d : ℕ) → p < 10 → d < 10
    → 44 ∷ 44 ∷ (48 + p % 10) ∷ 44 ∷ (48 + d % 10) ∷ 44 ∷ 10 ∷ [] ≡ fields_text default_writer ([] ∷ count_text p ∷ count_text d ∷ [] ∷ []) ++ 10 ∷ []
unfolding fields_text
choices-text p d small_p small_d = rw (field-of-digit p small_p, field-of-digit d small_d) refl

pub choices-text-exact : (p d t : ℕ) → p < 10 → d < 10 → t < 10
    → 44 ∷ 44 ∷ (48 + p % 10) ∷ 44 ∷ (48 + d % 10) ∷ 44 ∷ (48 + t % 10) ∷ 10 ∷ []
    ≡ fields_text default_writer ([] ∷ count_text p ∷ count_text d ∷ count_text t ∷ []) ++ 10 ∷ []
unfolding fields_text
choices-text-exact p d t small_p small_d small_t = rw (field-of-digit p small_p, field-of-digit d small_d, field-of-digit t small_t) refl

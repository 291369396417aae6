-- The text of a key reads back, and what a text reads as.
use Rattle.std.proofs.Common.{◌≡◌, ℕ, suc, ◌+◌, ◌^◌, ◌<◌, ◌≤◌, ◌==◌, ◌&&◌, ◌||◌, not, Bool, true, false, if◌then◌else◌, List, [], ◌∷◌, ◌++◌, length, get_or, drop, Result, Ok, Err, ℤ, pos, negsuc, neg_ℤ, unsigned_abs, nat_le, ◌⊎◌, inl, inr, arith, refl, ap, ◌∙◌, append_assoc, lit<}
use Rattle.std.specs.Prelude.{slice_index}
use Rattle.std.specs.Char.{is_ascii_digit}
use Rattle.std.specs.Fmt.{decimal, signed_decimal}
use Rattle.std.specs.Str.{all_ascii_digits}
use Rattle.std.proofs.lemmas.Bool.{and_from, and_parts, cases_lt, le-leb as at_most, or_left, or_right}
use Rattle.std.proofs.lemmas.Bool.Decides.{nat_tests}
use Rattle.std.proofs.lemmas.Fmt.{decimal_digit, decimal_nonempty, first_decimal, length-decimal-le}
use Rattle.gtfs_field.specs.Calendar.{date_of_day}
use Rattle.gtfs_field.specs.Canonical.{date_text}
use Rattle.gtfs_field.specs.Digits.{number, wide}
use Rattle.gtfs_field.specs.Kinds.{date_of, instant_of, is_minus, is_plain_number, shaped, within}
use Rattle.gtfs_field.specs.declared.fault.FieldFault.{FieldFault}
use Rattle.gtfs_field.proofs.Dates.{date_of-text}
use Rattle.gtfs_field.proofs.Numerals.{digits-append}
use Rattle.gtfs_field.proofs.Texts.{decimal-digits, decimal-is_number, number-decimal}
use Rattle.gtfs_field.proofs.Wides.{wide-digits}
use Rattle.gtfs_field.proofs.Choices.{shaped-true, within-true}
use Rattle.gtfs_rows.specs.Key.{Key, IsInRange, last_run, last_sequence}
use Rattle.gtfs_board.specs.KeyTexts.{key_text, key_of, plain_up_to, and_then}
use Rattle.gtfs_board.specs.KeyParts.{LacksSlash, AreTexts}
use Rattle.gtfs_board.proofs.Slashes.{digits-lack_slash, parts}

-- ---- results that go by tests

goes : {X Y : Type 0} (r : Result X FieldFault) (next : X → Result Y FieldFault) (x : X) → r ≡ Ok x → and_then r next ≡ next x
goes r next x h = ap (λ s. and_then s next) h

stops : {X Y : Type 0} (r : Result X FieldFault) (next : X → Result Y FieldFault) (e : FieldFault) → r ≡ Err e → and_then r next ≡ Err e
stops r next e h = ap (λ s. and_then s next) h

-- ---- what a text reads as, by its parts

abbrev with_day : ℤ → List ℕ → ℕ → ℕ → ℤ → Result Key FieldFault
with_day instant trip run sequence day = Ok (record { instant = instant; trip = trip; run = run; sequence = sequence; day = day })

abbrev with_sequence : ℤ → List ℕ → ℕ → List ℕ → ℕ → Result Key FieldFault
with_sequence instant trip run day sequence = and_then (date_of day) (with_day instant trip run sequence)

abbrev with_run : ℤ → List ℕ → List ℕ → List ℕ → ℕ → Result Key FieldFault
with_run instant trip sequence day run = and_then (plain_up_to last_sequence sequence) (with_sequence instant trip run day)

abbrev with_instant : List ℕ → List ℕ → List ℕ → List ℕ → ℤ → Result Key FieldFault
with_instant trip run sequence day instant = and_then (plain_up_to last_run run) (with_run instant trip sequence day)

abbrev key_from : Bool → List ℕ → List ℕ → List ℕ → List ℕ → List ℕ → Result Key FieldFault
key_from has_shape instant trip run sequence day = shaped has_shape (and_then (instant_of instant) (with_instant trip run sequence day))

by_parts : (t i trip r s d : List ℕ) → AreTexts t i trip r s d → key_of t ≡ key_from true i trip r s d
by_parts t i trip r s d p = λ j. key_from (p.shape j) (p.instant_is j) (p.trip_is j) (p.run_is j) (p.sequence_is j) (p.day_is j)

past_instant : (t i trip r s d : List ℕ) (x : ℤ) → AreTexts t i trip r s d → instant_of i ≡ Ok x → key_of t ≡ with_instant trip r s d x
past_instant t i trip r s d x p instant = by_parts t i trip r s d p ∙ goes (instant_of i) (with_instant trip r s d) x instant

past_run : (t i trip r s d : List ℕ) (x : ℤ) (n : ℕ) → AreTexts t i trip r s d → instant_of i ≡ Ok x → plain_up_to last_run r ≡ Ok n → key_of t ≡ with_run x trip s d n
past_run t i trip r s d x n p instant run = past_instant t i trip r s d x p instant ∙ goes (plain_up_to last_run r) (with_run x trip s d) n run

past_sequence : (t i trip r s d : List ℕ) (x : ℤ) (n m : ℕ) → AreTexts t i trip r s d → instant_of i ≡ Ok x → plain_up_to last_run r ≡ Ok n
    → plain_up_to last_sequence s ≡ Ok m → key_of t ≡ with_sequence x trip n d m
past_sequence t i trip r s d x n m p instant run sequence = past_run t i trip r s d x n p instant run ∙ goes (plain_up_to last_sequence s) (with_sequence x trip n d) m sequence

pub reads : (t i trip r s d : List ℕ) (x : ℤ) (n m : ℕ) (y : ℤ) → AreTexts t i trip r s d → instant_of i ≡ Ok x → plain_up_to last_run r ≡ Ok n
    → plain_up_to last_sequence s ≡ Ok m → date_of d ≡ Ok y → key_of t ≡ with_day x trip n m y
reads t i trip r s d x n m y p instant run sequence day = past_sequence t i trip r s d x n m p instant run sequence ∙ goes (date_of d) (with_day x trip n m) y day

-- ---- numbers with no zero in front

plain-decimal : (n : ℕ) → n < 2 ^ 64 → is_plain_number (decimal n) ≡ true
plain-decimal n fits = and_from _ _ (decimal-is_number n fits) (front n fits (cases_lt 0 n))
  where
    other : (b : ℕ) → 48 < b → not (b == 48) ≡ true
    other b more = grind (arith, nat_tests)

    front : (n : ℕ) → n < 2 ^ 64 → (0 < n) ⊎ (n ≤ 0) → ((length (decimal n) == 1) || not (slice_index (decimal n) 0 == 48)) ≡ true
    front n fits (inl some) = or_right (length (decimal n) == 1) _ (other (get_or (decimal n) 0 0) (first_decimal n some fits))
    front n fits (inr none) =
        let zeroed : n ≡ 0 = omega arith in
        let digit : decimal n ≡ (48 + n) ∷ [] = decimal_digit n (omega arith) in
        or_left (length (decimal n) == 1) _ (ap (λ t. length t == 1) digit)

plain_up_to-decimal : (limit n : ℕ) → n ≤ limit → n < 2 ^ 64 → plain_up_to limit (decimal n) ≡ Ok n
plain_up_to-decimal limit n most fits =
    let value = number-decimal n fits in
    shaped-true _ _ (plain-decimal n fits) ∙ within-true _ _ (at_most (number (decimal n)) limit (rw value most)) ∙ ap (λ v. Ok v) value

-- ---- instants

abbrev instant_from : Bool → List ℕ → Result ℤ FieldFault
instant_from is_negative t =
    let ds = if is_negative then drop 1 t else t in
    let n = if is_negative then neg_ℤ (pos (number ds)) else pos (number ds) in
    shaped (is_plain_number ds && not (is_negative && (slice_index ds 0 == 48))) (within (nat_le (length ds) 12) n)

not_minus : (ds : List ℕ) → 0 < length ds → all_ascii_digits ds ≡ true → is_minus (slice_index ds 0) ≡ false
not_minus [] some digits = absurd (omega arith)
not_minus (d ∷ ds) some digits = other d (and_parts (is_ascii_digit d) (all_ascii_digits ds) digits).0
  where
    other : (b : ℕ) → is_ascii_digit b ≡ true → is_minus b ≡ false
    other b digit = grind (arith, nat_tests)

few : (n : ℕ) → n < 10 ^ 12 → length (decimal n) ≤ 12
few n small = length-decimal-le 12 n (lit< tt) small (omega arith)

instant_of-text : (x : ℤ) → unsigned_abs x < 10 ^ 12 → instant_of (signed_decimal x) ≡ Ok x
instant_of-text (pos n) small =
    let fits : n < 2 ^ 64 = omega arith in
    let value = number-decimal n fits in
    ap (λ b. instant_from b (decimal n)) (not_minus (decimal n) (decimal_nonempty n fits) (decimal-digits n fits))
    ∙ shaped-true _ _ (and_from _ _ (plain-decimal n fits) refl)
    ∙ within-true _ _ (at_most (length (decimal n)) 12 (few n small)) ∙ ap (λ v. Ok (pos v)) value
instant_of-text (negsuc n) small =
    let fits : suc n < 2 ^ 64 = omega arith in
    let value = number-decimal (suc n) fits in
    let nonzero = not_zero (get_or (decimal (suc n)) 0 0) (first_decimal (suc n) (omega arith) fits) in
    shaped-true _ _ (and_from _ _ (plain-decimal (suc n) fits) nonzero)
    ∙ within-true _ _ (at_most (length (decimal (suc n))) 12 (few (suc n) small)) ∙ ap (λ v. Ok (neg_ℤ (pos v))) value
  where
    not_zero : (b : ℕ) → 48 < b → not (true && (b == 48)) ≡ true
    not_zero b more = grind (arith, nat_tests)

-- ---- the text of a key

signed-lacks_slash : (x : ℤ) → unsigned_abs x < 10 ^ 12 → LacksSlash (signed_decimal x)
signed-lacks_slash (pos n) small = digits-lack_slash (decimal n) (decimal-digits n (omega arith))
signed-lacks_slash (negsuc n) small = digits-lack_slash (decimal (suc n)) (decimal-digits (suc n) (omega arith))

date-lacks_slash : (n : ℤ) → LacksSlash (date_text n)
date-lacks_slash n =
    let d = date_of_day n in
    digits-lack_slash (date_text n)
    (digits-append (wide 4 (unsigned_abs d.year) ++ wide 2 d.month) (wide 2 d.day)
    (digits-append (wide 4 (unsigned_abs d.year)) (wide 2 d.month) (wide-digits 4 (unsigned_abs d.year)) (wide-digits 2 d.month)) (wide-digits 2 d.day))

regrouped : (i trip r s d : List ℕ) → (64 ∷ []) ++ i ++ (47 ∷ []) ++ trip ++ (47 ∷ []) ++ r ++ (47 ∷ []) ++ s ++ (47 ∷ []) ++ d
    ≡ 64 ∷ (i ++ 47 ∷ (((trip ++ 47 ∷ r) ++ 47 ∷ s) ++ 47 ∷ d))
regrouped i trip r s d = simp append_assoc

key-parts : (k : Key) → IsInRange k → AreTexts (key_text k) (signed_decimal k.instant) k.trip (decimal k.run) (decimal k.sequence) (date_text k.day)
key-parts k inside =
    let i = signed_decimal k.instant in
    let r = decimal k.run in
    let s = decimal k.sequence in
    let d = date_text k.day in
    let run : LacksSlash r = digits-lack_slash r (decimal-digits k.run (omega (arith, inside.run))) in
    let sequence : LacksSlash s = digits-lack_slash s (decimal-digits k.sequence (omega (arith, inside.sequence))) in
    parts (key_text k) (i ++ 47 ∷ (((k.trip ++ 47 ∷ r) ++ 47 ∷ s) ++ 47 ∷ d)) i (((k.trip ++ 47 ∷ r) ++ 47 ∷ s) ++ 47 ∷ d) ((k.trip ++ 47 ∷ r) ++ 47 ∷ s) d (k.trip ++ 47 ∷ r) s k.trip r
    (regrouped i k.trip r s d)
    (record { text = refl; lacks = signed-lacks_slash k.instant inside.instant })
    (record { text = refl; lacks = date-lacks_slash k.day })
    (record { text = refl; lacks = sequence })
    (record { text = refl; lacks = run })

pub key_of-text : (k : Key) → IsInRange k → key_of (key_text k) ≡ Ok k
key_of-text k inside =
    reads (key_text k) (signed_decimal k.instant) k.trip (decimal k.run) (decimal k.sequence) (date_text k.day) k.instant k.run k.sequence k.day (key-parts k inside)
    (instant_of-text k.instant inside.instant)
    (plain_up_to-decimal last_run k.run inside.run (omega (arith, inside.run)))
    (plain_up_to-decimal last_sequence k.sequence inside.sequence (omega (arith, inside.sequence)))
    (date_of-text k.day inside.day_from inside.day_to)

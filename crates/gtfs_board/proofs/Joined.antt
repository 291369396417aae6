-- Texts that grow by a piece at a time.
use Rattle.std.proofs.Common.{◌≡◌, ◌∙◌, ap, refl, ℕ, ◌-◌, ◌/◌, ◌%◌, ◌==◌, nat_lt, Bool, true, false, if◌then◌else◌, int_lt, pos, List, [], ◌∷◌, ◌++◌, take, drop, codes, unsigned_abs, append_assoc}
use Rattle.std.specs.Prelude.{decimal}
use Rattle.std.specs.Fmt.{signed_decimal}
use Rattle.std.specs.List.{list_all}
use Rattle.std.specs.Str.{IsAscii}
use Rattle.std.proofs.lemmas.Bool.{and_parts, ltb-true}
use Rattle.std.proofs.lemmas.Str.Ascii.{IsAscii-nil, IsAscii-cons}
use Rattle.gtfs_field.specs.Digits.{wide}
use Rattle.gtfs_days.specs.declared.civil.Civil.{Civil}
use Rattle.gtfs_field.specs.Canonical.{date_text}
use Rattle.gtfs_rows.specs.Key.{Key}
use Rattle.gtfs_board.specs.KeyTexts.{key_text}
use Rattle.gtfs_board.specs.BoardLines.{Listed, clock_text, line_text, mark_text}

-- a piece, and then the rest
pub joined : (old mid new piece rest : List ℕ) → mid ≡ old ++ piece → new ≡ mid ++ rest → new ≡ old ++ (piece ++ rest)
joined old mid new piece rest first next = next ∙ ap (λ t. t ++ rest) first ∙ append_assoc old piece rest

-- ASCII, as a test tells
pub ascii-tested : (bs : List ℕ) → list_all (λ b. nat_lt b 128) bs ≡ true → IsAscii bs
ascii-tested [] h = IsAscii-nil
ascii-tested (b ∷ bs) h =
    let parts = and_parts (nat_lt b 128) (list_all (λ b. nat_lt b 128) bs) h in
    IsAscii-cons b bs (ltb-true b 128 parts.0) (ascii-tested bs parts.1)

-- a tab, a clock with room for the sign of its year and the seconds of its offset, and a tab
abbrev framed : Bool → Bool → Bool → ℕ → ℕ → ℕ → ℕ → ℕ → ℕ → ℕ → List ℕ
framed negative behind whole y m d h n t o = codes "\t" ++ (if negative then codes "-" else codes "\t") ++ wide 4 y ++ codes "-" ++ wide 2 m ++ codes "-" ++ wide 2 d ++ codes " " ++ wide 2 h
    ++ codes ":" ++ wide 2 n ++ codes ":" ++ wide 2 t ++ (if behind then codes "-" else codes "+") ++ wide 2 (o / 3600) ++ codes ":" ++ wide 2 (o / 60 % 60)
    ++ (if whole then codes "\t" else codes ":") ++ wide 2 (o % 60) ++ codes "\t"

abbrev shown : Bool → Bool → Bool → ℕ → ℕ → ℕ → ℕ → ℕ → ℕ → ℕ → List ℕ
shown negative behind whole y m d h n t o = ((if negative then codes "-" else []) ++ wide 4 y) ++ codes "-" ++ wide 2 m ++ codes "-" ++ wide 2 d ++ codes " " ++ wide 2 h
    ++ codes ":" ++ wide 2 n ++ codes ":" ++ wide 2 t ++ ((if behind then codes "-" else codes "+") ++ wide 2 (o / 3600) ++ codes ":" ++ wide 2 (o / 60 % 60)
    ++ (if whole then [] else codes ":" ++ wide 2 (o % 60)))

cut-out : (negative behind whole : Bool) (y m d h n t o : ℕ)
    → take ((if whole then 28 else 31) - (if negative then 0 else 1)) (drop (if negative then 0 else 1) (framed negative behind whole y m d h n t o))
    ≡ codes "\t" ++ shown negative behind whole y m d h n t o ++ codes "\t"
cut-out true true true y m d h n t o = refl
cut-out true true false y m d h n t o = refl
cut-out true false true y m d h n t o = refl
cut-out true false false y m d h n t o = refl
cut-out false true true y m d h n t o = refl
cut-out false true false y m d h n t o = refl
cut-out false false true y m d h n t o = refl
cut-out false false false y m d h n t o = refl

abbrev pub clock_frame : Civil → List ℕ
clock_frame c = framed (int_lt c.year (pos 0)) (int_lt c.offset (pos 0)) (unsigned_abs c.offset % 60 == 0) (unsigned_abs c.year) c.month c.day c.hour c.minute c.second (unsigned_abs c.offset)

-- what is shown of it
pub clock-shown : (c : Civil) (bytes : List ℕ) (start end : ℕ) → bytes ≡ clock_frame c → start ≡ (if int_lt c.year (pos 0) then 0 else 1)
    → end ≡ (if unsigned_abs c.offset % 60 == 0 then 28 else 31) → take (end - start) (drop start bytes) ≡ codes "\t" ++ clock_text c ++ codes "\t"
clock-shown c bytes start end is from to =
    (λ i. take (to i - from i) (drop (from i) (is i)))
    ∙ cut-out (int_lt c.year (pos 0)) (int_lt c.offset (pos 0)) (unsigned_abs c.offset % 60 == 0) (unsigned_abs c.year) c.month c.day c.hour c.minute c.second (unsigned_abs c.offset)

-- the columns of a line
in_columns : (old k t c s r h m n : List ℕ) → (((((((old ++ k) ++ (t ++ c ++ t)) ++ s) ++ t) ++ r) ++ t) ++ h) ++ (t ++ m ++ n)
    ≡ old ++ (k ++ t ++ c ++ t ++ s ++ t ++ r ++ t ++ h ++ t ++ m ++ n)
in_columns old k t c s r h m n = simp append_assoc

pub line-joined : (old key clock stop second route third headsign new ending : List ℕ) (c : Civil) (d : Listed) → ending ≡ codes "\t" ++ mark_text d.mark ++ codes "\n"
    → key ≡ old ++ key_text d.key → clock ≡ key ++ (codes "\t" ++ clock_text c ++ codes "\t") → stop ≡ clock ++ d.stop → second ≡ stop ++ codes "\t"
    → route ≡ second ++ d.route → third ≡ route ++ codes "\t" → headsign ≡ third ++ d.headsign → new ≡ headsign ++ ending → new ≡ old ++ line_text c d
line-joined old key clock stop second route third headsign new ending c d ending-is k l s t r u h e =
    let tab = codes "\t" in
    let to_clock = l ∙ ap (λ x. x ++ (tab ++ clock_text c ++ tab)) k in
    let to_second = t ∙ ap (λ x. x ++ tab) (s ∙ ap (λ x. x ++ d.stop) to_clock) in
    let to_third = u ∙ ap (λ x. x ++ tab) (r ∙ ap (λ x. x ++ d.route) to_second) in
    let to_headsign = h ∙ ap (λ x. x ++ d.headsign) to_third in
    e ∙ ap (λ x. headsign ++ x) ending-is ∙ ap (λ x. x ++ (tab ++ mark_text d.mark ++ codes "\n")) to_headsign
    ∙ in_columns old (key_text d.key) tab (clock_text c) d.stop d.route d.headsign (mark_text d.mark) (codes "\n")

-- the parts of a key
in_a_row : (old a i s t r n d : List ℕ) → (((((old ++ a) ++ i) ++ s) ++ t) ++ (s ++ r ++ s ++ n ++ s ++ d)) ≡ old ++ (a ++ i ++ s ++ t ++ s ++ r ++ s ++ n ++ s ++ d)
in_a_row old a i s t r n d = simp append_assoc

pub key-joined : (old at instant slash trip new shown : List ℕ) (k : Key) → shown ≡ signed_decimal k.instant
    → at ≡ old ++ codes "@" → instant ≡ at ++ shown → slash ≡ instant ++ codes "/" → trip ≡ slash ++ k.trip
    → new ≡ trip ++ (codes "/" ++ decimal k.run ++ codes "/" ++ decimal k.sequence ++ codes "/" ++ date_text k.day) → new ≡ old ++ key_text k
key-joined old at instant slash trip new shown k shown-is a i s t n =
    let last = codes "/" ++ decimal k.run ++ codes "/" ++ decimal k.sequence ++ codes "/" ++ date_text k.day in
    let to_instant = i ∙ ap (λ x. at ++ x) shown-is ∙ ap (λ x. x ++ signed_decimal k.instant) a in
    let to_slash = s ∙ ap (λ x. x ++ codes "/") to_instant in
    let to_trip = t ∙ ap (λ x. x ++ k.trip) to_slash in
    n ∙ ap (λ x. x ++ last) to_trip ∙ in_a_row old (codes "@") (signed_decimal k.instant) (codes "/") k.trip (decimal k.run) (decimal k.sequence) (date_text k.day)

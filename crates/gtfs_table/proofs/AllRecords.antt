-- The records that a reader gave are all the records of the text.
use Rattle.std.proofs.Common.{◌≡◌, ◌<◌, ◌≤◌, ◌+◌, ◌++◌, ◌==◌, ◌||◌, ◌∷◌, [], ℕ, zero, suc, List, length, Bool, Some, None, refl, ap, true, false, if◌then◌else◌, arith, inl, inr}
use Rattle.std.proofs.lemmas.Bool.{cases_Bool}
use Rattle.std.proofs.lemmas.List.{length_push}
use Rattle.csv.specs.Machine.{Read, step, in_field, start_field, start_record, after_end, next_record, is_end, fields_after, ends_at_end}
use Rattle.csv.specs.Reading.{AreRecords, Reached, default_config, records, records_from}
use Rattle.csv.specs.declared.parser.State.{State}
use Rattle.csv.specs.declared.parser.State.TheVariants as st
use Rattle.csv.specs.declared.parser.Action.{Action}
use Rattle.csv.specs.declared.parser.Action.TheVariants as act
use Rattle.csv.specs.declared.parser.Terminator.TheVariants as term

-- after a record the end of the text ends no record
abbrev EndsWell : State × Action → Type 0
EndsWell x = is_end x.1 ≡ true → ends_at_end x.0 ≡ false

if-ends : (t : Bool) (x y : State × Action) → EndsWell x → EndsWell y → EndsWell (if t then x else y)
if-ends true x y p q = p
if-ends false x y p q = q

after_end-well : (c : ℕ) → ends_at_end (after_end term.CRLF c) ≡ false
after_end-well c = elim (cases_Bool (c == 13)) [ inl is ↦ rw is refl | inr not ↦ rw not refl ]

in_field-well : (c : ℕ) → EndsWell (in_field default_config c)
in_field-well c = if-ends (c == 44) _ _ (λ e. (cc)) (if-ends ((c == 13) || (c == 10)) _ _ (λ e. after_end-well c) (λ e. (cc)))

start_field-well : (c : ℕ) → EndsWell (start_field default_config c)
start_field-well c = if-ends (c == 34) _ _ (λ e. (cc)) (in_field-well c)

start_record-well : (c : ℕ) → EndsWell (start_record default_config c)
start_record-well c = if-ends ((c == 13) || (c == 10)) _ _ (λ e. (cc)) (start_field-well c)

step-well : (s : State) (c : ℕ) → EndsWell (step default_config s c)
step-well st.StartRecord c = start_record-well c
step-well st.StartField c = start_field-well c
step-well st.InField c = in_field-well c
step-well st.InQuoted c = if-ends (c == 34) _ _ (λ e. (cc)) (λ e. (cc))
step-well st.AfterQuote c = if-ends (c == 34) _ _ (λ e. (cc)) (in_field-well c)
step-well st.InEscape c = λ e. cc e
step-well st.InComment c = if-ends (c == 10) _ _ (λ e. (cc)) (λ e. (cc))
step-well st.AfterCr c = if-ends (c == 10) _ _ (λ e. (cc)) (start_record-well c)

-- one where the end of the text ends a record
abbrev pub last : State → ℕ
last s = if ends_at_end s then 1 else 0

last-le : (s : State) → last s ≤ 1
last-le s = elim (cases_Bool (ends_at_end s)) [ inl is ↦ rw is (omega arith) | inr not ↦ rw not (omega arith) ]

-- a record takes a byte, or the end of the text
pub shorter : (xs : List ℕ) (s : State) (fields : List (List ℕ)) (field : List ℕ) (p : Read) → next_record default_config s fields field xs ≡ Some p
    → (1 + length p.2 ≤ length xs + last s) × (ends_at_end p.1 ≡ false)
unfolding next_record
shorter [] s fields field p e = elim (cases_Bool (ends_at_end s)) [
  | inl is ↦ let q = rw is at e in
      let same : ◌≡◌ {A = Read} (fields ++ (field ∷ []), st.StartRecord, []) p = cc q in
      rw (← same, is) (omega arith, refl)
  | inr not ↦ let q = rw not at e in cc q
]
shorter (c ∷ xs) s fields field p e = elim (cases_Bool (is_end (step default_config s c).1)) [
  | inl is ↦ let q = rw is at e in
      let same : ◌≡◌ {A = Read} (fields_after (step default_config s c).1 fields field, (step default_config s c).0, xs) p = cc q in
      rw (← same) (omega arith, step-well s c is)
  | inr not ↦ let q = rw not at e in
      let h = shorter xs (step default_config s c).0 _ _ p q in
      let one = last-le (step default_config s c).0 in
      (omega (arith, h.0), h.1)
]

-- no more records than that
count : (rows : List (List (List ℕ))) (s s2 : State) (xs ys : List ℕ) → Reached default_config s xs rows s2 ys → length rows ≤ length xs + last s
unfolding Reached
count [] s s2 xs ys h = omega arith
count (r ∷ rows) s s2 xs ys h =
    let p = h.0 in
    let one = shorter xs s [] [] p h.1 in
    let none : last p.1 ≡ 0 = rw one.1 refl in
    let more = count rows p.1 s2 p.2 ys h.3 in
    omega (arith, one.0)

all-by : (rows : List (List (List ℕ))) (n : ℕ) (s s2 : State) (xs ys : List ℕ) → Reached default_config s xs rows s2 ys → next_record default_config s2 [] [] ys ≡ None → length rows ≤ n
    → records_from default_config n s xs ≡ rows
unfolding Reached records_from
all-by [] zero s s2 xs ys h none small = refl
all-by [] (suc n) s s2 xs ys h none small = rw (h.0, h.1, none) refl
all-by (r ∷ rows) zero s s2 xs ys h none small = absurd (omega arith)
all-by (r ∷ rows) (suc n) s s2 xs ys h none small =
    rw (h.1, h.2) (ap (λ (t : List (List (List ℕ))). h.0.0 ∷ t) (all-by rows n h.0.1 s2 h.0.2 ys h.3 none (omega arith)))

pub records-AreRecords : (xs : List ℕ) (rows : List (List (List ℕ))) → AreRecords default_config st.StartRecord xs rows → records default_config xs ≡ rows
records-AreRecords xs rows h = all-by rows (length xs + 1) st.StartRecord h.0 xs h.1 h.2 h.3 (let few = count rows st.StartRecord h.0 xs h.1 h.2 in omega arith)

-- a record that was read has a field
pub read-filled : (xs : List ℕ) (s : State) (fields : List (List ℕ)) (field : List ℕ) (p : Read) → next_record default_config s fields field xs ≡ Some p → 0 < length p.0
unfolding next_record
read-filled [] s fields field p e = elim (cases_Bool (ends_at_end s)) [
  | inl is ↦ let q = rw is at e in
      let same : ◌≡◌ {A = Read} (fields ++ (field ∷ []), st.StartRecord, []) p = cc q in
      rw (← same) (omega (arith, length_push fields field))
  | inr not ↦ let q = rw not at e in cc q
]
read-filled (c ∷ xs) s fields field p e = elim (cases_Bool (is_end (step default_config s c).1)) [
  | inl is ↦ let q = rw is at e in
      let same : ◌≡◌ {A = Read} (fields_after (step default_config s c).1 fields field, (step default_config s c).0, xs) p = cc q in
      rw (← same) (ended (step default_config s c).1 fields field is)
  | inr not ↦ let q = rw not at e in read-filled xs (step default_config s c).0 _ _ p q
]
  where
    ended : (a : Action) (fields : List (List ℕ)) (field : List ℕ) → is_end a ≡ true → 0 < length (fields_after a fields field)
    ended act.EndRecord fields field h = omega (arith, length_push fields field)
    ended act.Skip fields field h = cc h
    ended act.Copy fields field h = cc h
    ended act.EndField fields field h = cc h

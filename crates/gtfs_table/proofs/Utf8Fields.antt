-- The fields of a record of a text are texts.
use Rattle.std.specs.Prelude.{⊤}
use Rattle.std.proofs.Common.{◌≡◌, ◌≤◌, ◌==◌, ◌++◌, ◌∷◌, ◌∙◌, ◌||◌, [], ℕ, List, Bool, Option, Some, None, refl, ap, subst, true, false, append_assoc, inl, inr, if◌then◌else◌, arith, nat_lt}
use Rattle.std.specs.Str.{IsUtf8}
use Rattle.std.proofs.lemmas.Str.{IsUtf8-nil, IsUtf8-append, IsUtf8-encode, encode_ascii}
use Rattle.std.proofs.lemmas.List.{append-nil}
use Rattle.std.proofs.lemmas.Bool.{and_parts, cases_Bool, cases_lt, ne_eqb}
use Rattle.std.proofs.lemmas.Bool.Decides.{nat_tests}
use Rattle.std.specs.List.{AllByRecursion}
use lib.Utf8.{scalars, scalar, encodes, encode}
use Rattle.csv.specs.Machine.{Read, step, in_field, start_field, start_record, after_end, next_record, is_end, fields_after, field_after, ends_at_end}
use Rattle.csv.specs.Reading.{default_config}
use Rattle.csv.specs.Records.{AllText}
use Rattle.csv.proofs.RecordFacts.{text-more}
use Rattle.csv.specs.declared.parser.State.{State}
use Rattle.csv.specs.declared.parser.State.TheVariants as st
use Rattle.csv.specs.declared.parser.Action.{Action}
use Rattle.csv.specs.declared.parser.Action.TheVariants as act
use Rattle.csv.specs.declared.parser.Terminator.TheVariants as term

-- the default reader knows no comments
abbrev pub is_open : State → Bool
is_open st.StartRecord = true
is_open st.StartField = true
is_open st.InField = true
is_open st.InQuoted = true
is_open st.AfterQuote = true
is_open st.InEscape = true
is_open st.InComment = false
is_open st.AfterCr = true

-- where a byte that is no mark leads
abbrev joins : State → State
joins st.StartRecord = st.InField
joins st.StartField = st.InField
joins st.InField = st.InField
joins st.InQuoted = st.InQuoted
joins st.AfterQuote = st.InField
joins st.InEscape = st.InQuoted
joins st.InComment = st.InComment
joins st.AfterCr = st.InField

joins-open : (s : State) → is_open s ≡ true → is_open (joins s) ≡ true
joins-open st.StartRecord h = refl
joins-open st.StartField h = refl
joins-open st.InField h = refl
joins-open st.InQuoted h = refl
joins-open st.AfterQuote h = refl
joins-open st.InEscape h = refl
joins-open st.InComment h = h
joins-open st.AfterCr h = refl

by_state : (s : State) (b : ℕ) → (b == 44) ≡ false → (b == 34) ≡ false → (b == 13) ≡ false → (b == 10) ≡ false → is_open s ≡ true → step default_config s b ≡ (joins s, act.Copy)
by_state st.StartRecord b comma quote cr lf o = simp (cr, lf, quote, comma) refl
by_state st.StartField b comma quote cr lf o = simp (cr, lf, quote, comma) refl
by_state st.InField b comma quote cr lf o = simp (cr, lf, comma) refl
by_state st.InQuoted b comma quote cr lf o = simp quote refl
by_state st.AfterQuote b comma quote cr lf o = simp (cr, lf, quote, comma) refl
by_state st.InEscape b comma quote cr lf o = refl
by_state st.InComment b comma quote cr lf o = cc o
by_state st.AfterCr b comma quote cr lf o = simp (cr, lf, quote, comma) refl

-- a byte that is not ASCII joins the field at hand
high-step : (s : State) (b : ℕ) → 128 ≤ b → is_open s ≡ true → step default_config s b ≡ (joins s, act.Copy)
high-step s b high o =
    let comma : (b == 44) ≡ false = ne_eqb b 44 (λ e. omega arith) in
    let quote : (b == 34) ≡ false = ne_eqb b 34 (λ e. omega arith) in
    let cr : (b == 13) ≡ false = ne_eqb b 13 (λ e. omega arith) in
    let lf : (b == 10) ≡ false = ne_eqb b 10 (λ e. omega arith) in
    by_state s b comma quote cr lf o

-- the bytes of a character that is not ASCII
pub encode-high : (c : ℕ) → 128 ≤ c → AllByRecursion (λ b. 128 ≤ b) (encode c)
unfolding encode
encode-high c high =
    let big : nat_lt c 128 ≡ false = grind (arith, nat_tests) in
    rw big (elim (cases_Bool (nat_lt c 2048)) [
      | inl two ↦ rw two (omega arith, (omega arith, tt))
      | inr more ↦ elim (cases_Bool (nat_lt c 65536)) [
        | inl three ↦ rw (more, three) (omega arith, (omega arith, (omega arith, tt)))
        | inr four ↦ rw (more, four) (omega arith, (omega arith, (omega arith, (omega arith, tt))))
      ]
    ])

-- bytes that are not ASCII all join the field at hand
high-run : (bs rest : List ℕ) (s : State) (fields : List (List ℕ)) (field : List ℕ) → AllByRecursion (λ b. 128 ≤ b) bs → is_open s ≡ true
    → (s2 : State) × (is_open s2 ≡ true) × (next_record default_config s fields field (bs ++ rest) ≡ next_record default_config s2 fields (field ++ bs) rest)
unfolding next_record
high-run [] rest s fields field all o = (s, o, rw (append-nil field) refl)
high-run (b ∷ bs) rest s fields field all o =
    let one = high-step s b all.0 o in
    let more = high-run bs rest (joins s) fields (field ++ b ∷ []) all.1 (joins-open s o) in
    (more.0, more.1, rw one (more.2 ∙ ap (λ (f : List ℕ). next_record default_config more.0 fields f rest) (append_assoc field (b ∷ []) bs)))

-- an ASCII byte never leads to a comment
if-open : (t : Bool) (x y : State × Action) → is_open x.0 ≡ true → is_open y.0 ≡ true → is_open (if t then x else y).0 ≡ true
if-open true x y p q = p
if-open false x y p q = q

end-open : (c : ℕ) → is_open (after_end term.CRLF c) ≡ true
end-open c = elim (cases_Bool (c == 13)) [ inl is ↦ rw is refl | inr not ↦ rw not refl ]

in_field-open : (c : ℕ) → is_open (in_field default_config c).0 ≡ true
in_field-open c = if-open (c == 44) _ _ refl (if-open ((c == 13) || (c == 10)) _ _ (end-open c) refl)

start_field-open : (c : ℕ) → is_open (start_field default_config c).0 ≡ true
start_field-open c = if-open (c == 34) _ _ refl (in_field-open c)

start_record-open : (c : ℕ) → is_open (start_record default_config c).0 ≡ true
start_record-open c = if-open ((c == 13) || (c == 10)) _ _ refl (start_field-open c)

step-open : (s : State) (c : ℕ) → is_open s ≡ true → is_open (step default_config s c).0 ≡ true
step-open st.StartRecord c o = start_record-open c
step-open st.StartField c o = start_field-open c
step-open st.InField c o = in_field-open c
step-open st.InQuoted c o = if-open (c == 34) _ _ refl refl
step-open st.AfterQuote c o = if-open (c == 34) _ _ refl (in_field-open c)
step-open st.InEscape c o = refl
step-open st.InComment c o = cc o
step-open st.AfterCr c o = if-open (c == 10) _ _ refl (start_record-open c)

-- what was read is text, and so is what is left
abbrev pub ReadsText : Option Read → Type 0
ReadsText None = ⊤
ReadsText (Some p) = AllText p.0 × IsUtf8 p.2 × (is_open p.1 ≡ true)

if-reads : (t : Bool) (x y : Option Read) → ReadsText x → ReadsText y → ReadsText (if t then x else y)
if-reads true x y p q = p
if-reads false x y p q = q

-- one ASCII byte, by what the machine does with it
by_action : (a : Action) (c : ℕ) (s2 : State) (fields : List (List ℕ)) (field rest : List ℕ) → is_open s2 ≡ true → AllText fields → IsUtf8 field → IsUtf8 (c ∷ []) → IsUtf8 rest
    → ((fs : List (List ℕ)) (f : List ℕ) → AllText fs → IsUtf8 f → ReadsText (next_record default_config s2 fs f rest))
    → ReadsText (if is_end a then Some (fields_after a fields field, s2, rest) else next_record default_config s2 (fields_after a fields field) (field_after a c field) rest)
by_action act.Skip c s2 fields field rest o all text one left more = more fields field all text
by_action act.Copy c s2 fields field rest o all text one left more = more fields (field ++ c ∷ []) all (IsUtf8-append field (c ∷ []) text one)
by_action act.EndField c s2 fields field rest o all text one left more = more (fields ++ field ∷ []) [] (text-more fields field all text) IsUtf8-nil
by_action act.EndRecord c s2 fields field rest o all text one left more = (text-more fields field all text, left, o)

-- the next record of these characters
reads-text : (cs : List ℕ) (s : State) (fields : List (List ℕ)) (field : List ℕ) → scalars cs ≡ true → is_open s ≡ true → AllText fields → IsUtf8 field
    → ReadsText (next_record default_config s fields field (encodes cs))
unfolding next_record
reads-text [] s fields field known o all text = if-reads (ends_at_end s) _ _ (text-more fields field all text, IsUtf8-nil, refl) tt
reads-text (c ∷ cs) s fields field known o all text =
    let (here, there) = and_parts (scalar c) (scalars cs) known in
    elim (cases_lt c 128) [
      | inl low ↦
          let one : encode c ≡ c ∷ [] = encode_ascii c low in
          rw one (by_action (step default_config s c).1 c (step default_config s c).0 fields field (encodes cs) (step-open s c o) all text
          (subst IsUtf8 one (IsUtf8-encode c here)) (cs, (there, refl))
          (λ fs f a t. reads-text cs (step default_config s c).0 fs f there (step-open s c o) a t))
      | inr high ↦
          let run = high-run (encode c) (encodes cs) s fields field (encode-high c high) o in
          rw run.2 (reads-text cs run.0 fields (field ++ encode c) there run.1 all (IsUtf8-append field (encode c) text (IsUtf8-encode c here)))
    ]

-- the fields of the next record of a text are texts, and what follows it is one
pub next_record-text : (s : State) (xs : List ℕ) → is_open s ≡ true → IsUtf8 xs → ReadsText (next_record default_config s [] [] xs)
unfolding AllText
next_record-text s xs o u = subst (λ (t : List ℕ). ReadsText (next_record default_config s [] [] t)) u.1.1 (reads-text u.0 s [] [] u.1.0 o tt IsUtf8-nil)

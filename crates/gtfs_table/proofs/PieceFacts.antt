-- The records of a text in pieces.
use Rattle.std.specs.Prelude.{⊤, ◌⊎◌, unwrap_or}
use Rattle.std.specs.List.{last_or, slice_get}
use Rattle.std.proofs.Common.{◌≡◌, ◌<◌, ◌≤◌, ◌+◌, ◌-◌, ◌++◌, ◌==◌, ◌||◌, ◌∷◌, ◌∙◌, [], ℕ, zero, suc, List, length, drop, get_or, Bool, Option, Some, None, refl, ap, subst, true, false, if◌then◌else◌, arith, inl, inr}
use Rattle.std.proofs.lemmas.Bool.{cases_Bool, ne_eqb}
use Rattle.std.proofs.lemmas.List.{get_or-drop, length-append, length-drop}
use Rattle.csv.specs.Machine.{Read, is_byte, line_feed, step, in_field, start_field, start_record, next_record, is_end, fields_after, field_after, ends_at_end}
use Rattle.csv.specs.Reading.{default_config, records, records_from, records_next}
use Rattle.csv.specs.declared.parser.State.{State}
use Rattle.csv.specs.declared.parser.State.TheVariants as st
use Rattle.csv.specs.declared.parser.Action.{Action}
use Rattle.gtfs_table.specs.FilePieces.{feeds_last, ends_within}
use Rattle.gtfs_table.specs.Tables.{record_at}
use Rattle.gtfs_table.proofs.AllRecords.{last, shorter}

-- ---- the last of a list

-- an item behind a list is its last one
pub last_or-push : {A : Type 0} (o : Option A) (xs : List A) (x : A) → last_or o (xs ++ x ∷ []) ≡ Some x
last_or-push o [] x = refl
last_or-push o (y ∷ xs) x = last_or-push (Some y) xs x

-- so the records after the first one tell the same, or there are none
ends_within-rest : (r : List (List ℕ)) (rows : List (List (List ℕ))) → ends_within (r ∷ rows) ≡ false → ends_within rows ≡ false
ends_within-rest r [] h = refl
ends_within-rest r (r2 ∷ rows) h = h

-- a record looks cut whose last field ends with a line feed
feeds_last-feed : (fields : List (List ℕ)) (field : List ℕ) → feeds_last (fields ++ (field ++ 10 ∷ []) ∷ []) ≡ true
feeds_last-feed fields field = rw (last_or-push None fields (field ++ 10 ∷ []), last_or-push None field 10) refl

-- ---- one step

-- where a record may begin, nothing of one is at hand
abbrev Fresh : State → List (List ℕ) → List ℕ → Type 0
Fresh st.StartRecord fields field = (fields ≡ []) × (field ≡ [])
Fresh st.AfterCr fields field = (fields ≡ []) × (field ≡ [])
Fresh st.InComment fields field = (fields ≡ []) × (field ≡ [])
Fresh st.StartField fields field = ⊤
Fresh st.InField fields field = ⊤
Fresh st.InQuoted fields field = ⊤
Fresh st.AfterQuote fields field = ⊤
Fresh st.InEscape fields field = ⊤

-- at a record's start that is so in every state
fresh-start : (s : State) → Fresh s [] []
fresh-start st.StartRecord = (refl, refl)
fresh-start st.AfterCr = (refl, refl)
fresh-start st.InComment = (refl, refl)
fresh-start st.StartField = tt
fresh-start st.InField = tt
fresh-start st.InQuoted = tt
fresh-start st.AfterQuote = tt
fresh-start st.InEscape = tt

-- and it stays so, by each step that ends no record
abbrev StaysFresh : ℕ → List (List ℕ) → List ℕ → State × Action → Type 0
StaysFresh c fields field x = is_end x.1 ≡ false → Fresh x.0 (fields_after x.1 fields field) (field_after x.1 c field)

if-fresh : (t : Bool) (x y : State × Action) (c : ℕ) (fields : List (List ℕ)) (field : List ℕ) → StaysFresh c fields field x → StaysFresh c fields field y
    → StaysFresh c fields field (if t then x else y)
if-fresh true x y c fields field p q = p
if-fresh false x y c fields field p q = q

in_field-fresh : (c : ℕ) (fields : List (List ℕ)) (field : List ℕ) → StaysFresh c fields field (in_field default_config c)
in_field-fresh c fields field = if-fresh (c == 44) _ _ c fields field (λ e. tt) (if-fresh ((c == 13) || (c == 10)) _ _ c fields field (λ e. absurd (cc e)) (λ e. tt))

start_field-fresh : (c : ℕ) (fields : List (List ℕ)) (field : List ℕ) → StaysFresh c fields field (start_field default_config c)
start_field-fresh c fields field = if-fresh (c == 34) _ _ c fields field (λ e. tt) (in_field-fresh c fields field)

start_record-fresh : (c : ℕ) (fields : List (List ℕ)) (field : List ℕ) → (fields ≡ []) × (field ≡ []) → StaysFresh c fields field (start_record default_config c)
start_record-fresh c fields field h = if-fresh ((c == 13) || (c == 10)) _ _ c fields field (λ e. h) (start_field-fresh c fields field)

step-fresh : (s : State) (c : ℕ) (fields : List (List ℕ)) (field : List ℕ) → Fresh s fields field → StaysFresh c fields field (step default_config s c)
step-fresh st.StartRecord c fields field h = start_record-fresh c fields field h
step-fresh st.StartField c fields field h = start_field-fresh c fields field
step-fresh st.InField c fields field h = in_field-fresh c fields field
step-fresh st.InQuoted c fields field h = if-fresh (c == 34) _ _ c fields field (λ e. tt) (λ e. tt)
step-fresh st.AfterQuote c fields field h = if-fresh (c == 34) _ _ c fields field (λ e. tt) (in_field-fresh c fields field)
step-fresh st.InEscape c fields field h = λ e. tt
step-fresh st.InComment c fields field h = if-fresh (c == 10) _ _ c fields field (λ e. h) (λ e. h)
step-fresh st.AfterCr c fields field h = if-fresh (c == 10) _ _ c fields field (λ e. h) (start_record-fresh c fields field h)

-- ---- one record

-- what a record leaves of a text that ends with a line feed: nothing, at a record's start, or again such a text
abbrev Leaves : Read → Type 0
Leaves r = ((r.1 ≡ st.StartRecord) × (r.2 ≡ [])) ⊎ ((s : List ℕ) × (r.2 ≡ s ++ 10 ∷ []))

-- how a record reads in such a text alone, and with x behind it: it ends in the text, and reads the same;
-- or the text ends between two records, and the record is one of x; or the text cuts it within quotes
abbrev ReadsPiece : List ℕ → Option Read → Option Read → Type 0
ReadsPiece x alone more =
    ((r : Read) × (alone ≡ Some r) × (more ≡ Some (r.0, r.1, r.2 ++ x)) × Leaves r)
    ⊎ ((alone ≡ None) × (more ≡ next_record default_config st.StartRecord [] [] x))
    ⊎ ((fields : List (List ℕ)) × (field : List ℕ) × (alone ≡ Some (fields ++ (field ++ 10 ∷ []) ∷ [], st.StartRecord, [])))

-- the last byte, a line feed, in each state
at-feed : (s : State) (x : List ℕ) (fields : List (List ℕ)) (field : List ℕ) → Fresh s fields field
    → ReadsPiece x (next_record default_config s fields field (10 ∷ [])) (next_record default_config s fields field (10 ∷ x))
unfolding next_record
at-feed st.StartRecord x fields field h = inr (inl (refl, rw (h.0, h.1) refl))
at-feed st.AfterCr x fields field h = inr (inl (refl, rw (h.0, h.1) refl))
at-feed st.InComment x fields field h = inr (inl (refl, rw (h.0, h.1) refl))
at-feed st.StartField x fields field h = inl ((fields ++ field ∷ [], st.StartRecord, []), refl, refl, inl (refl, refl))
at-feed st.InField x fields field h = inl ((fields ++ field ∷ [], st.StartRecord, []), refl, refl, inl (refl, refl))
at-feed st.AfterQuote x fields field h = inl ((fields ++ field ∷ [], st.StartRecord, []), refl, refl, inl (refl, refl))
at-feed st.InQuoted x fields field h = inr (inr (fields, field, refl))
at-feed st.InEscape x fields field h = inr (inr (fields, field, refl))

-- the same for a whole text
record-in-piece : (s x : List ℕ) (s0 : State) (fields : List (List ℕ)) (field : List ℕ) → Fresh s0 fields field
    → ReadsPiece x (next_record default_config s0 fields field (s ++ 10 ∷ [])) (next_record default_config s0 fields field ((s ++ 10 ∷ []) ++ x))
unfolding next_record
record-in-piece [] x s0 fields field h = at-feed s0 x fields field h
record-in-piece (c ∷ s) x s0 fields field h = elim (cases_Bool (is_end (step default_config s0 c).1)) [
  | inl is ↦ rw is (inl ((fields_after (step default_config s0 c).1 fields field, (step default_config s0 c).0, s ++ 10 ∷ []), refl, refl, inr (s, refl)))
  | inr not ↦ rw not (record-in-piece s x (step default_config s0 c).0 _ _ (step-fresh s0 c fields field h not))
]

-- ---- all records

-- records after two equal reads are equal where those after each record are
next-same : (o : Option Read) (f g : State → List ℕ → List (List (List ℕ))) → ((r : Read) → o ≡ Some r → f r.1 r.2 ≡ g r.1 r.2) → records_next f o ≡ records_next g o
next-same None f g same = refl
next-same (Some r) f g same = ap (λ (rows : List (List (List ℕ))). r.0 ∷ rows) (same r refl)

-- any two numbers that are large enough give the same records
enough : (n m : ℕ) (s : State) (xs : List ℕ) → length xs + last s < n → length xs + last s < m → records_from default_config n s xs ≡ records_from default_config m s xs
unfolding records_from
enough zero m s xs p q = absurd (omega (arith, p))
enough (suc n) zero s xs p q = absurd (omega (arith, q))
enough (suc n) (suc m) s xs p q = next-same (next_record default_config s [] [] xs) (records_from default_config n) (records_from default_config m) (λ r e.
    let one = shorter xs s [] [] r e in
    let none : last r.1 ≡ 0 = rw one.1 refl in
    enough n m r.1 r.2 (omega (arith, one.0)) (omega (arith, one.0)))

-- nothing has no records
none-from : (n : ℕ) → records_from default_config n st.StartRecord [] ≡ []
unfolding records_from next_record
none-from zero = refl
none-from (suc n) = refl

-- the records of a text and of x behind it, from a state in which a record may begin
split-from : (n m k : ℕ) (s x : List ℕ) (s0 : State) → ends_at_end s0 ≡ false → length (s ++ 10 ∷ []) < n → length (s ++ 10 ∷ []) + length x < m → length x < k
    → ends_within (records_from default_config n s0 (s ++ 10 ∷ [])) ≡ false
    → records_from default_config m s0 ((s ++ 10 ∷ []) ++ x) ≡ records_from default_config n s0 (s ++ 10 ∷ []) ++ records_from default_config k st.StartRecord x
unfolding records_from
split-from zero m k s x s0 begins large larger enough_x whole = absurd (omega (arith, large))
split-from (suc n) zero k s x s0 begins large larger enough_x whole = absurd (omega (arith, larger))
split-from (suc n) (suc m) k s x s0 begins large larger enough_x whole = elim (record-in-piece s x s0 [] [] (fresh-start s0)) [
  | inl (r, alone, more, leaves) ↦
      let one = shorter (s ++ 10 ∷ []) s0 [] [] r alone in
      let none : last s0 ≡ 0 = rw begins refl in
      let rest = ends_within-rest r.0 (records_from default_config n r.1 r.2) (rw alone at whole) in
      rw (alone, more) (ap (λ (rows : List (List (List ℕ))). r.0 ∷ rows) (elim leaves [
        | inl (state, left) ↦
            rw (state, left, none-from n) (enough m k st.StartRecord x (omega (arith, one.0)) (omega (arith, enough_x)))
        | inr (s2, left) ↦
            let fewer = subst (λ (t : List ℕ). 1 + length t ≤ length (s ++ 10 ∷ []) + last s0) left one.0 in
            rw left (split-from n m k s2 x r.1 one.1 (omega arith) (omega arith) enough_x
            (subst (λ (t : List ℕ). ends_within (records_from default_config n r.1 t) ≡ false) left rest))
      ]))
  | inr other ↦ elim other [
    | inl (alone, more) ↦ rw (alone, more) (enough (suc m) k st.StartRecord x (omega (arith, larger)) (omega (arith, enough_x)))
    | inr (fields, field, alone) ↦
        let cut = rw (alone, none-from n) at whole in
        absurd (cc (cut, feeds_last-feed fields field))
  ]
]

-- a text that ends with a line feed, and not within quotes, reads as it does alone: what stands behind it reads as a text of its own
pub records-split : (s x : List ℕ) → ends_within (records default_config (s ++ 10 ∷ [])) ≡ false
    → records default_config ((s ++ 10 ∷ []) ++ x) ≡ records default_config (s ++ 10 ∷ []) ++ records default_config x
records-split s x whole =
    let both = length-append (s ++ 10 ∷ []) x in
    split-from (length (s ++ 10 ∷ []) + 1) (length ((s ++ 10 ∷ []) ++ x) + 1) (length x + 1) s x st.StartRecord refl (omega arith) (omega (arith, both)) (omega arith) whole

-- ---- the last item, by its number

last-at : {A : Type 0} (x : A) (xs : List A) → last_or (Some x) xs ≡ slice_get (x ∷ xs) (length xs)
last-at x [] = refl
last-at x (y ∷ xs) = last-at y xs

last_or-slice_get : {A : Type 0} (xs : List A) → last_or None xs ≡ slice_get xs (length xs - 1)
last_or-slice_get [] = refl
last_or-slice_get (x ∷ xs) =
    let here : length (x ∷ xs) - 1 ≡ length xs = omega arith in
    rw here (last-at x xs)

last-get_or : {A : Type 0} (d : A) (xs : List A) → unwrap_or (last_or None xs) d ≡ get_or xs (length xs - 1) d
last-get_or d xs = ap (λ o. unwrap_or o d) (last_or-slice_get xs) ∙ slice_get-get_or xs (length xs - 1) d
  where
    slice_get-get_or : {A : Type 0} (xs : List A) (i : ℕ) (d : A) → unwrap_or (slice_get xs i) d ≡ get_or xs i d
    slice_get-get_or [] i d = refl
    slice_get-get_or (x ∷ xs) zero d = refl
    slice_get-get_or (x ∷ xs) (suc i) d = slice_get-get_or xs i d

-- the last byte of the last field tells
pub feeds-by_last : (fields : List (List ℕ)) (last : Option ℕ) → last ≡ slice_get (get_or fields (length fields - 1) []) (length (get_or fields (length fields - 1) []) - 1)
    → is_byte last line_feed ≡ feeds_last fields
feeds-by_last fields last e = rw (last-get_or [] fields, last_or-slice_get (get_or fields (length fields - 1) []), e) refl

-- the last record tells, if there is one behind the first ones
pub ends_within-by_last : (rs : List (List (List ℕ))) (count : ℕ) → count < length rs → feeds_last (get_or rs (length rs - 1) []) ≡ ends_within (drop count rs)
ends_within-by_last rs count lt =
    let here = last-get_or [] (drop count rs) in
    let there = get_or-drop count rs (length (drop count rs) - 1) [] in
    let at : count + (length (drop count rs) - 1) ≡ length rs - 1 = omega (arith, length-drop count rs, lt) in
    rw (here, there, at) refl

-- the last record, by its row
pub last-record : (rs : List (List (List ℕ))) (n : ℕ) → n ≡ length rs → 0 < n → record_at rs n ≡ get_or rs (length rs - 1) []
last-record rs n e some =
    let not : (n == 0) ≡ false = ne_eqb n 0 (λ z. omega (arith, z, some)) in
    rw (not, e) refl

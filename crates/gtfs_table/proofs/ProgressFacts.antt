-- A file that is read piece after piece: what the records of whole lines leave to be read.
use Rattle.std.proofs.Common.{◌≡◌, ◌<◌, ◌≤◌, ◌+◌, ◌-◌, ◌∷◌, ◌++◌, ◌∙◌, ◌==◌, ◌&&◌, [], ℕ, zero, suc, List, Bool, length, take, drop, get_or, refl, sym, ap, subst, arith, length-append, append_assoc, true, false, inl, inr, if◌then◌else◌}
use Rattle.std.proofs.Math.Seq.{drop-append_seam, take-append_seam}
use Rattle.std.proofs.lemmas.Bool.{cases_Bool}
use Rattle.std.proofs.lemmas.List.{append-nil, length_push}
use Rattle.std.proofs.lemmas.Str.{IsUtf8-append, IsUtf8-drop, IsUtf8-encode, encode_ascii, IsUtf8-from_is_utf8, IsUtf8-nil, IsUtf8-take, IsCharBoundary-after_ascii, is_utf8-from_IsUtf8}
use Rattle.std.specs.Str.{IsUtf8, is_utf8}
use Rattle.csv.specs.Reading.{default_config, is_bom, records, records_from}
use Rattle.csv.specs.Machine.{next_record}
use Rattle.gtfs_table.specs.FilePieces.{ends_within}
use Rattle.gtfs_table.specs.ReadingProgress.{HasTaken, Progress, nothing_read, table_after, with_text}
use Rattle.gtfs_table.specs.Tables.{Records, Table, not_utf8, of_records, table_of_bytes, without_marks}
use Rattle.gtfs_table.proofs.PieceFacts.{records-split}

-- ---- marks

-- a text that begins with a line feed has no mark
pub line-kept : (x : List ℕ) → without_marks (10 ∷ x) ≡ 10 ∷ x
unfolding without_marks
line-kept [] = refl
line-kept (b ∷ []) = refl
line-kept (b ∷ c ∷ rest) = refl

-- whole lines without their marks, which what follows them does not change
pub record IsCut (lines : List ℕ) (s : List ℕ) : Type 0 where
  pub cut : without_marks lines ≡ s ++ 10 ∷ []
  pub more : (x : List ℕ) → without_marks (lines ++ x) ≡ (s ++ 10 ∷ []) ++ x

second-not : (a c : ℕ) → is_bom a 10 c ≡ false
second-not a c = by (a == 0xEF) (c == 0xBF)
  where
    by : (t u : Bool) → ((t && false) && u) ≡ false
    by true u = refl
    by false u = refl

third-not : (a b : ℕ) → is_bom a b 10 ≡ false
third-not a b = by ((a == 0xEF) && (b == 0xBB))
  where
    by : (t : Bool) → (t && false) ≡ false
    by true = refl
    by false = refl

pub marks-cut : (s : List ℕ) → (t : List ℕ) × IsCut (s ++ 10 ∷ []) t
unfolding without_marks
marks-cut [] = ([], record { cut = refl; more = λ x. line-kept x })
marks-cut (a ∷ []) = (a ∷ [], record { cut = refl; more = two a })
  where
    two : (a : ℕ) (x : List ℕ) → without_marks (a ∷ 10 ∷ x) ≡ a ∷ 10 ∷ x
    two a [] = refl
    two a (c ∷ x) = rw (second-not a c) refl
marks-cut (a ∷ b ∷ []) = (a ∷ b ∷ [], record { cut = rw (third-not a b) refl; more = λ x. rw (third-not a b) refl })
marks-cut (a ∷ b ∷ c ∷ s) = elim (cases_Bool (is_bom a b c)) [
  | inl is ↦ let (t, rest) = marks-cut s in (t, record { cut = rw is (rest.cut); more = λ x. rw is (rest.more x) })
  | inr not ↦ (a ∷ b ∷ c ∷ s, record { cut = rw not refl; more = λ x. rw not refl })
]

-- ---- UTF-8

-- lines and what follows them are UTF-8 where both together are
lines-utf8 : (s x : List ℕ) → IsUtf8 ((s ++ 10 ∷ []) ++ x) → IsUtf8 (s ++ 10 ∷ []) × IsUtf8 x
lines-utf8 s x u =
    let lines = s ++ 10 ∷ [] in
    let count : length lines ≡ length s + 1 = length_push s 10 in
    let here : get_or (lines ++ x) (length s) 0 ≡ 10 = at s x in
    let at_end = IsCharBoundary-after_ascii (lines ++ x) (length s) u (omega (arith, count, length-append lines x)) (rw here (omega arith)) in (
      subst IsUtf8 (ap (λ (n : ℕ). take n (lines ++ x)) (sym count) ∙ take-append_seam lines x) (IsUtf8-take (lines ++ x) (length s + 1) u at_end),
      subst IsUtf8 (ap (λ (n : ℕ). drop n (lines ++ x)) (sym count) ∙ drop-append_seam lines x) (IsUtf8-drop (lines ++ x) (length s + 1) u at_end),
    )
  where
    at : (s x : List ℕ) → get_or ((s ++ 10 ∷ []) ++ x) (length s) 0 ≡ 10
    at [] x = refl
    at (b ∷ s) x = at s x

differ : (t : Bool) → t ≡ false → t ≡ true → ⊥
differ true e f = cc e
differ false e f = cc f

-- a test by what makes it true
test-by : (a b : List ℕ) → (IsUtf8 a → IsUtf8 b) → (IsUtf8 b → IsUtf8 a) → is_utf8 a ≡ is_utf8 b
test-by a b f g = elim (cases_Bool (is_utf8 a)) [
  | inl is ↦ is ∙ sym (is_utf8-from_IsUtf8 b (f (IsUtf8-from_is_utf8 a is)))
  | inr not ↦ elim (cases_Bool (is_utf8 b)) [
    | inl other ↦ absurd (differ (is_utf8 a) not (is_utf8-from_IsUtf8 a (g (IsUtf8-from_is_utf8 b other))))
    | inr other ↦ not ∙ sym other
  ]
]

feed-utf8 : IsUtf8 (10 ∷ [])
feed-utf8 = subst IsUtf8 (encode_ascii 10 (omega arith)) (IsUtf8-encode 10 refl)

-- behind lines that are UTF-8 the rest tells whether all is
behind-utf8 : (s x : List ℕ) → is_utf8 (s ++ 10 ∷ []) ≡ true → is_utf8 ((s ++ 10 ∷ []) ++ x) ≡ is_utf8 (10 ∷ x)
behind-utf8 s x good =
    let lines = IsUtf8-from_is_utf8 (s ++ 10 ∷ []) good in
    test-by ((s ++ 10 ∷ []) ++ x) (10 ∷ x)
    (λ u. IsUtf8-append (10 ∷ []) x feed-utf8 (lines-utf8 s x u).1)
    (λ u. IsUtf8-append (s ++ 10 ∷ []) x lines (lines-utf8 [] x u).1)

refused : (a : List ℕ) → (IsUtf8 a → ⊥) → is_utf8 a ≡ false
refused a bad = elim (cases_Bool (is_utf8 a)) [ inl is ↦ absurd (bad (IsUtf8-from_is_utf8 a is)) | inr not ↦ not ]

-- behind lines that are not, nothing is
never-utf8 : (s x : List ℕ) → is_utf8 (s ++ 10 ∷ []) ≡ false → is_utf8 ((s ++ 10 ∷ []) ++ x) ≡ false
never-utf8 s x bad = refused ((s ++ 10 ∷ []) ++ x) (λ u. differ (is_utf8 (s ++ 10 ∷ [])) bad (is_utf8-from_IsUtf8 (s ++ 10 ∷ []) (lines-utf8 s x u).0))

-- ---- records

feed-alone : records default_config (10 ∷ []) ≡ []
unfolding records_from next_record
feed-alone = refl

-- a line feed at the start is no record
feed-first : (x : List ℕ) → records default_config (10 ∷ x) ≡ records default_config x
feed-first x = records-split [] x (ap ends_within feed-alone) ∙ ap (λ (r : Records). r ++ records default_config x) feed-alone

-- the records of whole lines are read
lines-read : (rs : Records) (s x : List ℕ) → is_utf8 (s ++ 10 ∷ []) ≡ true → ends_within (records default_config (s ++ 10 ∷ [])) ≡ false
    → with_text rs ((s ++ 10 ∷ []) ++ x) ≡ with_text (rs ++ records default_config (s ++ 10 ∷ [])) (10 ∷ x)
lines-read rs s x good whole =
    let split = records-split s x whole in
    let apart = append_assoc rs (records default_config (s ++ 10 ∷ [])) (records default_config x) in
    rw (behind-utf8 s x good, split, feed-first x, apart) refl

-- ---- whole lines at the start of what is left

pub record IsLines (left : List ℕ) (end : ℕ) : Type 0 where
  pub before : List ℕ
  pub behind : List ℕ
  pub whole : left ≡ (before ++ 10 ∷ []) ++ behind
  pub lines : take end left ≡ before ++ 10 ∷ []
  pub rest : drop (end - 1) left ≡ 10 ∷ behind

-- the line feed has this number
lines-to : (left : List ℕ) (n : ℕ) → n < length left → get_or left n 0 ≡ 10
    → (before : List ℕ) × (behind : List ℕ) × (left ≡ (before ++ 10 ∷ []) ++ behind) × (take (suc n) left ≡ before ++ 10 ∷ []) × (drop n left ≡ 10 ∷ behind)
lines-to [] n within is = absurd (omega (arith, within))
lines-to (b ∷ left) zero within is = ([], left, rw is refl, rw is refl, rw is refl)
lines-to (b ∷ left) (suc n) within is =
    let (before, behind, whole, lines, rest) = lines-to left n (omega (arith, within)) is in
    (b ∷ before, behind, ap (λ (x : List ℕ). b ∷ x) whole, ap (λ (x : List ℕ). b ∷ x) lines, rest)

lines-at : (left : List ℕ) (end : ℕ) → 0 < end → end ≤ length left → get_or left (end - 1) 0 ≡ 10 → IsLines left end
lines-at left end some within is =
    let (before, behind, whole, lines, rest) = lines-to left (end - 1) (omega (arith, some, within)) is in
    let size : suc (end - 1) ≡ end = omega (arith, some) in
    record { before = before; behind = behind; whole = whole; lines = subst (λ (n : ℕ). take n left ≡ before ++ 10 ∷ []) size lines; rest = rest }

both : {A : Type 0} (b : Bool) (x : A) → (if b then x else x) ≡ x
both true x = refl
both false x = refl

-- lines that are not UTF-8 tell of the whole file
pub lines-refused : (p : Progress) (end : ℕ) → end ≤ length p.left → (0 < end → get_or p.left (end - 1) 0 ≡ 10) → (IsUtf8 (without_marks (take end p.left)) → ⊥)
    → (rest : List ℕ) → table_after p rest ≡ not_utf8
unfolding table_after without_marks
lines-refused p zero within ended bad rest = absurd (bad IsUtf8-nil)
lines-refused p (suc n) within ended bad rest =
    let l = lines-at p.left (suc n) (omega arith) within (ended (omega arith)) in
    let (t, cut) = marks-cut l.before in
    let is : without_marks (take (suc n) p.left) ≡ t ++ 10 ∷ [] = ap without_marks l.lines ∙ cut.cut in
    let never : is_utf8 (t ++ 10 ∷ []) ≡ false = refused (t ++ 10 ∷ []) (subst (λ (x : List ℕ). IsUtf8 x → ⊥) is bad) in
    let text : without_marks (p.left ++ rest) ≡ (t ++ 10 ∷ []) ++ (l.behind ++ rest) =
    ap (λ (x : List ℕ). without_marks (x ++ rest)) l.whole ∙ ap without_marks (append_assoc (l.before ++ 10 ∷ []) l.behind rest) ∙ cut.more (l.behind ++ rest) in
    rw (text, never-utf8 t (l.behind ++ rest) never) (both p.is_text not_utf8)

-- the records of lines that are UTF-8 are read, unless they seem to end within quotes
pub lines-taken : (p : Progress) (end : ℕ) (text : List ℕ) → 0 < end → end ≤ length p.left → get_or p.left (end - 1) 0 ≡ 10 → text ≡ without_marks (take end p.left) → IsUtf8 text
    → ends_within (records default_config text) ≡ false
    → (rest : List ℕ) → table_after p rest ≡ table_after (record { records = p.records ++ records default_config text; left = drop (end - 1) p.left; is_text = p.is_text }) rest
unfolding table_after
lines-taken p end text some within ended e good whole rest =
    let l = lines-at p.left end some within ended in
    let (t, cut) = marks-cut l.before in
    let is : text ≡ t ++ 10 ∷ [] = e ∙ ap without_marks l.lines ∙ cut.cut in
    let all : without_marks (p.left ++ rest) ≡ (t ++ 10 ∷ []) ++ (l.behind ++ rest) =
    ap (λ (x : List ℕ). without_marks (x ++ rest)) l.whole ∙ ap without_marks (append_assoc (l.before ++ 10 ∷ []) l.behind rest) ∙ cut.more (l.behind ++ rest) in
    let later : without_marks (drop (end - 1) p.left ++ rest) ≡ 10 ∷ (l.behind ++ rest) = ap (λ (x : List ℕ). without_marks (x ++ rest)) l.rest ∙ line-kept (l.behind ++ rest) in
    let read = lines-read p.records t (l.behind ++ rest) (is_utf8-from_IsUtf8 (t ++ 10 ∷ []) (subst IsUtf8 is good))
    (subst (λ (x : List ℕ). ends_within (records default_config x) ≡ false) is whole) in
    rw (all, later, is) (ap (λ (x : Table). if p.is_text then x else not_utf8) read)

-- ---- the rest

pub never-text : (p : Progress) (rest : List ℕ) → p.is_text ≡ false → table_after p rest ≡ not_utf8
unfolding table_after
never-text p rest not = rw not refl

pub rest-read : (p : Progress) (text : List ℕ) → p.is_text ≡ true → text ≡ without_marks p.left → IsUtf8 text → of_records (p.records ++ records default_config text) ≡ table_after p []
unfolding table_after
rest-read p text is e good = rw (is, append-nil p.left, ← e, is_utf8-from_IsUtf8 text good) refl

pub rest-not_utf8 : (p : Progress) → (IsUtf8 (without_marks p.left) → ⊥) → not_utf8 ≡ table_after p []
unfolding table_after
rest-not_utf8 p bad = rw (append-nil p.left, refused (without_marks p.left) bad) (sym (both p.is_text not_utf8))

-- ---- pieces

-- bytes that wait with those before them
pub piece-kept : (p : Progress) (piece rest : List ℕ) → table_after p (piece ++ rest) ≡ table_after (record { records = p.records; left = p.left ++ piece; is_text = p.is_text }) rest
unfolding table_after
piece-kept p piece rest = ap (λ (x : List ℕ). if p.is_text then with_text p.records (without_marks x) else not_utf8) (sym (append_assoc p.left piece rest))

pub none-taken : HasTaken nothing_read []
unfolding table_after table_of_bytes
none-taken rest = refl

-- The text of records, and its records.
use Rattle.std.proofs.Common.{◌≡◌, ◌<◌, ◌≤◌, ◌==◌, ◌&&◌, ◌++◌, ◌∷◌, [], ℕ, zero, suc, List, Bool, Some, length, refl, sym, subst, true, false, if◌then◌else◌, arith, append_assoc, inl, inr, drop}
use Rattle.std.specs.List.{All, AllByRecursion, list_any}
use Rattle.std.specs.Str.{IsUtf8, is_utf8}
use Rattle.std.proofs.lemmas.Bool.{and_parts, cases_Bool, cases_lt, ne_eqb}
use Rattle.std.proofs.lemmas.List.{append-nil}
use Rattle.std.proofs.lemmas.List.Elements.{All-nil, All-cons, All-head, All-tail}
use Rattle.std.proofs.lemmas.Str.{IsUtf8-nil, IsUtf8-append, IsUtf8-encode, encode_ascii, is_utf8-from_IsUtf8}
use lib.Utf8.{scalars, scalar, encodes, encode}
use Rattle.csv.specs.Machine.{next_record}
use Rattle.csv.specs.Reading.{Reached, default_config, is_bom, records}
use Rattle.csv.specs.declared.writer.WriterBuilder.{WriterBuilder}
use Rattle.csv.specs.Records.{AllText}
use Rattle.csv.proofs.RecordFacts.{text-take}
use Rattle.csv.specs.Writing.{default_writer, with_flexible, escaped, field_text, fields_text, is_blank, needs_byte, read_back, row_body, row_text}
use Rattle.csv.specs.declared.parser.State.TheVariants as st
use Rattle.csv.proofs.RoundTrip.{read-write}
use Rattle.gtfs_table.specs.Tables.{Records, of_records, table_of_bytes, without_marks}
use Rattle.gtfs_table.specs.TableTexts.{text_of_records, begins_with_mark, is_marked}
use Rattle.gtfs_table.proofs.AllRecords.{records-AreRecords}
use Rattle.gtfs_table.proofs.StoreFacts.{AllFilled}
use Rattle.gtfs_table.proofs.Utf8Fields.{encode-high}
use Rattle.gtfs_table.specs.FieldOffsets.{parts}

-- ---- a writer that lets records differ in length writes the same

abbrev flexible : WriterBuilder
flexible = with_flexible default_writer true

escaped-flexible : (field : List ℕ) → escaped flexible field ≡ escaped default_writer field
unfolding escaped
escaped-flexible [] = refl
escaped-flexible (b ∷ rest) = rw (escaped-flexible rest) refl

fields-flexible : (fields : List (List ℕ)) → fields_text flexible fields ≡ fields_text default_writer fields
unfolding fields_text
fields-flexible [] = refl
fields-flexible (f ∷ fs) = rw (fields-flexible fs, escaped-flexible f) refl

blank-flexible : (fields : List (List ℕ)) → is_blank flexible fields ≡ is_blank default_writer fields
unfolding is_blank
blank-flexible [] = refl
blank-flexible (f ∷ []) = rw (escaped-flexible f) refl
blank-flexible (f ∷ g ∷ rest) = refl

body-flexible : (fields : List (List ℕ)) → row_body flexible fields ≡ row_body default_writer fields
body-flexible [] = refl
body-flexible (f ∷ fs) = rw (fields-flexible fs, escaped-flexible f) refl

pub row-flexible : (fields : List (List ℕ)) → row_text flexible fields ≡ row_text default_writer fields
row-flexible fields = rw (body-flexible fields, blank-flexible fields) refl

-- one more record
pub text-more : (rs : Records) (r : List (List ℕ)) → text_of_records (rs ++ r ∷ []) ≡ text_of_records rs ++ row_text default_writer r
unfolding text_of_records
text-more [] r = append-nil (row_text default_writer r)
text-more (q ∷ rs) r = rw (text-more rs r) (sym (append_assoc (row_text default_writer q) (text_of_records rs) (row_text default_writer r)))

-- ---- what is written is read back

same-fields : (r : List (List ℕ)) → 0 < length r → read_back r ≡ r
same-fields [] h = absurd (omega arith)
same-fields (f ∷ fs) h = refl

reached-text : (rs : Records) → AllFilled rs → Reached default_config st.StartRecord (text_of_records rs) rs st.StartRecord []
unfolding Reached text_of_records
reached-text [] h = (refl, refl)
reached-text (r ∷ rs) h =
    let filled = All-head (λ (q : List (List ℕ)). 0 < length q) r rs h in
    let rest = All-tail (λ (q : List (List ℕ)). 0 < length q) r rs h in
    ((read_back r, st.StartRecord, text_of_records rs), read-write r (text_of_records rs), sym (same-fields r filled), reached-text rs rest)

pub records-text : (rs : Records) → AllFilled rs → records default_config (text_of_records rs) ≡ rs
unfolding next_record
records-text rs h = records-AreRecords (text_of_records rs) rs (st.StartRecord, [], reached-text rs h, refl)

-- ---- a text that begins with no mark

-- what a text that is not empty begins with, where what stands first is written as it is
unmarked-plain : (field : List ℕ) (c : ℕ) (rest : List ℕ) → begins_with_mark field ≡ false → (c == 0xBB) ≡ false → (c == 0xBF) ≡ false → (c == 0xEF) ≡ false
    → without_marks (field ++ c ∷ rest) ≡ field ++ c ∷ rest
unfolding without_marks
unmarked-plain [] c [] e bb bf ef = refl
unmarked-plain [] c (d ∷ []) e bb bf ef = refl
unmarked-plain [] c (d ∷ f ∷ rest) e bb bf ef = rw ef refl
unmarked-plain (a ∷ []) c [] e bb bf ef = refl
unmarked-plain (a ∷ []) c (d ∷ rest) e bb bf ef =
    let not : is_bom a c d ≡ false = middle (a == 0xEF) (c == 0xBB) (d == 0xBF) bb in
    rw not refl
  where
    middle : (p q r : Bool) → q ≡ false → ((p && q) && r) ≡ false
    middle p true r h = cc h
    middle true false r h = refl
    middle false false r h = refl
unmarked-plain (a ∷ b ∷ []) c rest e bb bf ef =
    let not : is_bom a b c ≡ false = last-of (a == 0xEF) (b == 0xBB) (c == 0xBF) bf in
    rw not refl
  where
    last-of : (p q r : Bool) → r ≡ false → ((p && q) && r) ≡ false
    last-of p q true h = cc h
    last-of true true false h = refl
    last-of true false false h = refl
    last-of false q false h = refl
unmarked-plain (a ∷ b ∷ d ∷ more) c rest e bb bf ef = rw e refl

unmarked-quoted : (rest : List ℕ) → without_marks (34 ∷ rest) ≡ 34 ∷ rest
unfolding without_marks
unmarked-quoted [] = refl
unmarked-quoted (a ∷ []) = refl
unmarked-quoted (a ∷ b ∷ rest) = refl

-- the text of a record by what stands first
alone : (xs tail : List ℕ) → ((xs ++ []) ++ 10 ∷ []) ++ tail ≡ xs ++ 10 ∷ tail
alone xs tail = rw (append-nil xs) (append_assoc xs (10 ∷ []) tail)

followed : (xs rest tail : List ℕ) → ((xs ++ 44 ∷ rest) ++ 10 ∷ []) ++ tail ≡ xs ++ 44 ∷ ((rest ++ 10 ∷ []) ++ tail)
followed xs rest tail = rw (append_assoc xs (44 ∷ rest) (10 ∷ [])) (append_assoc xs (44 ∷ (rest ++ 10 ∷ [])) tail)

unmarked-row : (field : List ℕ) (fields : List (List ℕ)) (tail : List ℕ) → begins_with_mark field ≡ false
    → without_marks (row_text default_writer (field ∷ fields) ++ tail) ≡ row_text default_writer (field ∷ fields) ++ tail
unfolding is_blank fields_text
unmarked-row [] [] tail e = unmarked-quoted (34 ∷ 10 ∷ tail)
unmarked-row [] (g ∷ fields) tail e = unmarked-plain [] 44 _ e refl refl refl
unmarked-row (b ∷ bs) [] tail e = elim (cases_Bool (list_any (needs_byte default_writer) (b ∷ bs))) [
  | inl needs ↦ rw needs (unmarked-quoted _)
  | inr plain ↦
      let some : (suc (length bs) == 0) ≡ false = ne_eqb (suc (length bs)) 0 (λ z. cc z) in
      rw (plain, some) (subst (λ (t : List ℕ). without_marks t ≡ t) (sym (alone (b ∷ bs) tail)) (unmarked-plain (b ∷ bs) 10 tail e refl refl refl))
]
unmarked-row (b ∷ bs) (g ∷ fields) tail e = elim (cases_Bool (list_any (needs_byte default_writer) (b ∷ bs))) [
  | inl needs ↦ rw needs (unmarked-quoted _)
  | inr plain ↦
      let rest : List ℕ = (field_text default_writer g ++ fields_text default_writer fields) in
      rw plain (subst (λ (t : List ℕ). without_marks t ≡ t) (sym (followed (b ∷ bs) rest tail)) (unmarked-plain (b ∷ bs) 44 ((rest ++ 10 ∷ []) ++ tail) e refl refl refl))
]

unmarked-text : (rs : Records) → AllFilled rs → is_marked rs ≡ false → without_marks (text_of_records rs) ≡ text_of_records rs
unfolding text_of_records without_marks
unmarked-text [] h e = refl
unmarked-text ([] ∷ rs) h e = absurd (let some = All-head (λ (q : List (List ℕ)). 0 < length q) [] rs h in omega (arith, some))
unmarked-text ((field ∷ fields) ∷ rs) h e = unmarked-row field fields (text_of_records rs) e

-- ---- a text of texts

byte-utf8 : (b : ℕ) → b < 128 → scalar b ≡ true → IsUtf8 (b ∷ [])
byte-utf8 b low known = subst IsUtf8 (encode_ascii b low) (IsUtf8-encode b known)

pub escaped-append : (xs ys : List ℕ) → escaped default_writer (xs ++ ys) ≡ escaped default_writer xs ++ escaped default_writer ys
unfolding escaped
escaped-append [] ys = refl
escaped-append (x ∷ xs) ys = elim (cases_Bool (x == 34)) [
  | inl is ↦ rw (is, escaped-append xs ys) refl
  | inr not ↦ rw (not, escaped-append xs ys) refl
]

escaped-high : (xs : List ℕ) → AllByRecursion (λ b. 128 ≤ b) xs → escaped default_writer xs ≡ xs
unfolding escaped
escaped-high [] h = refl
escaped-high (x ∷ xs) h =
    let not : (x == 34) ≡ false = ne_eqb x 34 (λ e. let big = h.0 in absurd (omega arith)) in
    rw (not, escaped-high xs h.1) refl

escaped-low : (c : ℕ) → c < 128 → scalar c ≡ true → IsUtf8 (escaped default_writer (c ∷ []))
unfolding escaped
escaped-low c low known = elim (cases_Bool (c == 34)) [
  | inl is ↦ rw is (IsUtf8-append (34 ∷ []) (c ∷ []) (byte-utf8 34 (omega arith) refl) (byte-utf8 c low known))
  | inr not ↦ rw not (byte-utf8 c low known)
]

escaped-chars : (cs : List ℕ) → scalars cs ≡ true → IsUtf8 (escaped default_writer (encodes cs))
unfolding escaped
escaped-chars [] known = IsUtf8-nil
escaped-chars (c ∷ cs) known =
    let (here, there) = and_parts (scalar c) (scalars cs) known in
    let rest = escaped-chars cs there in
    rw (escaped-append (encode c) (encodes cs)) (IsUtf8-append (escaped default_writer (encode c)) (escaped default_writer (encodes cs)) (elim (cases_lt c 128) [
      | inl low ↦ rw (encode_ascii c low) (escaped-low c low here)
      | inr high ↦ rw (escaped-high (encode c) (encode-high c high)) (IsUtf8-encode c here)
    ]) rest)

field-utf8 : (field : List ℕ) → IsUtf8 field → IsUtf8 (field_text default_writer field)
field-utf8 field u = elim (cases_Bool (list_any (needs_byte default_writer) field)) [
  | inl needs ↦
      let inner = subst (λ (t : List ℕ). IsUtf8 (escaped default_writer t)) u.1.1 (escaped-chars u.0 u.1.0) in
      let quote = byte-utf8 34 (omega arith) refl in
      rw needs (IsUtf8-append (34 ∷ []) (escaped default_writer field ++ 34 ∷ []) quote (IsUtf8-append (escaped default_writer field) (34 ∷ []) inner quote))
  | inr plain ↦ rw plain u
]

fields-utf8 : (fields : List (List ℕ)) → AllText fields → IsUtf8 (fields_text default_writer fields)
unfolding fields_text AllText
fields-utf8 [] h = IsUtf8-nil
fields-utf8 (f ∷ fs) h = IsUtf8-append (44 ∷ []) _ (byte-utf8 44 (omega arith) refl) (IsUtf8-append _ _ (field-utf8 f h.0) (fields-utf8 fs h.1))

body-utf8 : (fields : List (List ℕ)) → AllText fields → IsUtf8 (row_body default_writer fields)
unfolding AllText
body-utf8 [] h = IsUtf8-nil
body-utf8 (f ∷ fs) h = IsUtf8-append _ _ (field-utf8 f h.0) (fields-utf8 fs h.1)

quotes-utf8 : (t : Bool) → IsUtf8 (if t then 34 ∷ 34 ∷ [] else [])
quotes-utf8 true = IsUtf8-append (34 ∷ []) (34 ∷ []) (byte-utf8 34 (omega arith) refl) (byte-utf8 34 (omega arith) refl)
quotes-utf8 false = IsUtf8-nil

row-utf8 : (fields : List (List ℕ)) → AllText fields → IsUtf8 (row_text default_writer fields)
row-utf8 fields h =
    IsUtf8-append _ _ (body-utf8 fields h) (IsUtf8-append _ _ (quotes-utf8 (is_blank default_writer fields)) (byte-utf8 10 (omega arith) refl))

text-utf8 : (rs : Records) → All AllText rs → IsUtf8 (text_of_records rs)
unfolding text_of_records
text-utf8 [] h = IsUtf8-nil
text-utf8 (r ∷ rs) h = IsUtf8-append _ _ (row-utf8 r (All-head AllText r rs h)) (text-utf8 rs (All-tail AllText r rs h))

-- ---- the whole

pub reads-back : (rs : Records) → AllFilled rs → All AllText rs → is_marked rs ≡ false
    → table_of_bytes (Some (text_of_records rs)) ≡ of_records rs
unfolding table_of_bytes
reads-back rs filled text e =
    let bytes = unmarked-text rs filled e in
    let good : is_utf8 (text_of_records rs) ≡ true = is_utf8-from_IsUtf8 (text_of_records rs) (text-utf8 rs text) in
    rw (bytes, good, records-text rs filled) refl

-- the texts of parts
text-drop : (n : ℕ) (fs : List (List ℕ)) → AllText fs → AllText (drop n fs)
unfolding AllText
text-drop zero fs h = h
text-drop (suc n) [] h = h
text-drop (suc n) (f ∷ fs) h = text-drop n fs h.1

pub parts-text : (starts : List ℕ) (fs : List (List ℕ)) → AllText fs → All AllText (parts starts fs)
unfolding parts
parts-text [] fs h = All-nil AllText
parts-text (s ∷ starts) fs h = All-cons AllText _ _ (text-take _ (drop s fs) (text-drop s fs h)) (parts-text starts fs h)

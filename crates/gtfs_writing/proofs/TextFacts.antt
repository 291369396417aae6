-- Rows taken into a text are the text of records, and taken into a room they leave what that text leaves of it.
use Rattle.std.proofs.Common.{◌≡◌, ◌∙◌, ap, sym, refl, ℕ, suc, inl, inr, ◌+◌, ◌-◌, ◌<◌, ◌≤◌, ◌++◌, ◌∷◌, ◌==◌, true, false, List, [], map, length, get_or, drop, take, drop-cons, add-one, eq-eqb, append-nil, append_assoc, length-append, nat_lt, Option, Some, None, arith}
use Rattle.std.specs.List.{list_all, list_any}
use Rattle.std.specs.Prelude.{Result, Ok, Err, if◌then◌else◌}
use Rattle.std.specs.Option.{is_none}
use Rattle.std.specs.Result.{OnOk, is_ok}
use Rattle.std.proofs.lemmas.Bool.{and_parts, cases_lt, le-ltb, lt-ltb}
use Rattle.std.proofs.lemmas.List.{drop_all}
use Rattle.std.proofs.lemmas.List.Folds.{list_any_more}
use Rattle.csv.specs.Writing.{default_writer, comma, escaped, field_text, fields_text, is_blank, row_text}
use Rattle.csv.specs.Machine.{line_feed}
use Rattle.gtfs_table.specs.TablesRead.{kept_files}
use Rattle.gtfs_table.specs.Tables.{Records}
use Rattle.gtfs_table.specs.TableTexts.{text_of_records}
use Rattle.gtfs_table.specs.declared.file.File.{File}
use Rattle.gtfs_table.specs.declared.file.File.TheVariants as file
use Rattle.gtfs_schema.specs.Columns.{Column, columns_of}
use Rattle.gtfs_rows.specs.Cells.{Cell, are_cells, cell_text, record_text}
use Rattle.gtfs_rows.specs.Content.{Content}
use Rattle.gtfs_rows.specs.RowCells.{cells_in}
use Rattle.gtfs_rows.specs.SoundContent.{IsSound}
use Rattle.gtfs_rows.specs.WrittenContent.{records_of_cells}
use Rattle.gtfs_rows.specs.FileTexts.{is_longer, written_text}
use Rattle.gtfs_rows.proofs.FileTexts.{text-of-cells}
use Rattle.gtfs_writing.specs.TakenRecords.{into_room, into_text, room_after, with_fields, with_row, with_rows}

-- ---- into a text

fields-text : (t : List ℕ) (fs : List (List ℕ)) → with_fields into_text t fs ≡ t ++ fields_text default_writer fs
unfolding fields_text
fields-text t [] = sym (append-nil t)
fields-text t (f ∷ fs) =
    fields-text (t ++ comma ∷ field_text default_writer f) fs
    ∙ append_assoc t (comma ∷ field_text default_writer f) (fields_text default_writer fs)

-- further fields and the end of their row, pushed in one piece
pub pushed-last : {T E : Type 0} (r : Result T E) (new old t piece : List ℕ) (fs : List (List ℕ)) → new ≡ (if is_ok r then old ++ piece else old)
    → old ≡ t → piece ≡ fields_text default_writer fs ++ line_feed ∷ [] → OnOk r (new ≡ into_text.last (with_fields into_text t fs))
pushed-last (Err v) new old t piece fs pushed was is = tt
pushed-last (Ok v) new old t piece fs pushed was is =
    pushed ∙ (λ i. was i ++ is i) ∙ sym (ap (λ u. u ++ line_feed ∷ []) (fields-text t fs) ∙ append_assoc t (fields_text default_writer fs) (line_feed ∷ []))

-- a row of two fields or more, which is no blank one
row-text : (t f g : List ℕ) (fs : List (List ℕ)) → with_row into_text t (f ∷ g ∷ fs) ≡ t ++ row_text default_writer (f ∷ g ∷ fs)
unfolding is_blank
row-text t f g fs =
    let own = field_text default_writer f in
    let further = fields_text default_writer (g ∷ fs) in
    ap (λ u. u ++ line_feed ∷ []) (fields-text (t ++ own) (g ∷ fs) ∙ append_assoc t own further)
    ∙ append_assoc t (own ++ further) (line_feed ∷ [])

text-rest : (t r : List ℕ) (rs : Records) (s : List ℕ) → s ≡ t ++ r → s ++ text_of_records rs ≡ t ++ (r ++ text_of_records rs)
text-rest t r rs s is = ap (λ u. u ++ text_of_records rs) is ∙ append_assoc t r (text_of_records rs)

rows-text : (t : List ℕ) (k j : Column) (ks : List Column) (vs : List (List Cell)) → list_all (are_cells (k ∷ j ∷ ks)) vs ≡ true
    → with_rows into_text t (map (record_text (k ∷ j ∷ ks)) vs) ≡ t ++ text_of_records (map (record_text (k ∷ j ∷ ks)) vs)
unfolding text_of_records
rows-text t k j ks [] each = sym (append-nil t)
rows-text t k j ks ([] ∷ vs) each = absurd (cc each)
rows-text t k j ks ((v ∷ []) ∷ vs) each = absurd (no_cells k j ks v vs each)
  where
    no_cells : (k j : Column) (ks : List Column) (v : Cell) (vs : List (List Cell)) → list_all (are_cells (k ∷ j ∷ ks)) ((v ∷ []) ∷ vs) ≡ true → ⊥
    no_cells k j ks v vs each =
        let own = (and_parts (are_cells (k ∷ j ∷ ks) (v ∷ [])) (list_all (are_cells (k ∷ j ∷ ks)) vs) each).0 in
        let none : false ≡ true = (and_parts _ false own).1 in
        cc none
rows-text t k j ks ((v ∷ w ∷ row) ∷ vs) each =
    let rest = map (record_text (k ∷ j ∷ ks)) vs in
    let r = record_text (k ∷ j ∷ ks) (v ∷ w ∷ row) in
    let row-is = row-text t (cell_text k.kind v) (cell_text j.kind w) (record_text ks row) in
    rows-text (with_row into_text t r) k j ks vs ((and_parts (are_cells (k ∷ j ∷ ks) (v ∷ w ∷ row)) (list_all (are_cells (k ∷ j ∷ ks)) vs) each).1)
    ∙ text-rest t (row_text default_writer r) rest (with_row into_text t r) row-is

whole : (k j : Column) (ks : List Column) (vs : List (List Cell)) → list_all (are_cells (k ∷ j ∷ ks)) vs ≡ true
    → with_rows into_text [] (map (λ c. c.name) (k ∷ j ∷ ks) ∷ map (record_text (k ∷ j ∷ ks)) vs)
    ≡ text_of_records (map (λ c. c.name) (k ∷ j ∷ ks) ∷ map (record_text (k ∷ j ∷ ks)) vs)
unfolding text_of_records
whole k j ks vs each =
    let header = map (λ c. c.name) (k ∷ j ∷ ks) in
    let rest = map (record_text (k ∷ j ∷ ks)) vs in
    rows-text (with_row into_text [] header) k j ks vs each
    ∙ ap (λ u. u ++ text_of_records rest) (row-text [] k.name j.name (map (λ c. c.name) ks))

whole-of : (ks : List Column) (vs : List (List Cell)) → 1 < length ks → list_all (are_cells ks) vs ≡ true
    → with_rows into_text [] (map (λ c. c.name) ks ∷ map (record_text ks) vs) ≡ text_of_records (map (λ c. c.name) ks ∷ map (record_text ks) vs)
whole-of [] vs some each = absurd (omega (arith, some))
whole-of (k ∷ []) vs some each = absurd (omega (arith, some))
whole-of (k ∷ j ∷ ks) vs some each = whole k j ks vs each

pub has_columns : (x : File) → 1 < length (columns_of x)
has_columns file.Agency = omega arith
has_columns file.Stops = omega arith
has_columns file.Routes = omega arith
has_columns file.Trips = omega arith
has_columns file.StopTimes = omega arith
has_columns file.Calendar = omega arith
has_columns file.CalendarDates = omega arith
has_columns file.Frequencies = omega arith
has_columns file.Transfers = omega arith

-- the rows of a file make its text
pub taken-text : (c : Content) (x : File) → IsSound c → with_rows into_text [] (records_of_cells x (cells_in c x)) ≡ written_text c x
taken-text c x sound = whole-of (columns_of x) (cells_in c x) (has_columns x) (sound.cells x) ∙ sym (text-of-cells c x)

-- ---- into a room

-- nothing takes nothing
room-none : (s : Option ℕ) → room_after s 0 ≡ s
room-none None = refl
room-none (Some r) =
    let same : r - 0 ≡ r = omega arith in
    rw (le-ltb r 0 (omega arith)) (ap Some same)

room-sum : (s : Option ℕ) (a b : ℕ) → room_after (room_after s a) b ≡ room_after s (a + b)
room-sum None a b = refl
room-sum (Some r) a b = elim (cases_lt r a) [
  | inl past ↦ rw (lt-ltb r a past, lt-ltb r (a + b) (omega (arith, past))) refl
  | inr fits ↦ elim (cases_lt r (a + b)) [
    | inl past ↦ rw (le-ltb r a fits, lt-ltb r (a + b) past, lt-ltb (r - a) b (omega (arith, past, fits))) refl
    | inr both ↦
        let rest : (r - a) - b ≡ r - (a + b) = omega arith in
        rw (le-ltb r a fits, le-ltb r (a + b) both, le-ltb (r - a) b (omega (arith, both, fits))) (ap Some rest)
  ]
]

-- after more bytes of a text
room-more : (s : Option ℕ) (t more : List ℕ) → room_after (room_after s (length t)) (length more) ≡ room_after s (length (t ++ more))
room-more s t more = room-sum s (length t) (length more) ∙ ap (room_after s) (sym (length-append t more))

room-fields : (s : Option ℕ) (t : List ℕ) (fs : List (List ℕ))
    → with_fields into_room (room_after s (length t)) fs ≡ room_after s (length (with_fields into_text t fs))
room-fields s t [] = refl
room-fields s t (f ∷ fs) =
    ap (λ u. with_fields into_room u fs) (room-more s t (comma ∷ field_text default_writer f))
    ∙ room-fields s (t ++ comma ∷ field_text default_writer f) fs

room-row : (s : Option ℕ) (t : List ℕ) (r : List (List ℕ)) → with_row into_room (room_after s (length t)) r ≡ room_after s (length (with_row into_text t r))
room-row s t [] = refl
room-row s t (f ∷ fs) =
    ap (λ u. room_after (with_fields into_room u fs) 1) (room-more s t (field_text default_writer f))
    ∙ ap (λ u. room_after u 1) (room-fields s (t ++ field_text default_writer f) fs)
    ∙ room-more s (with_fields into_text (t ++ field_text default_writer f) fs) (line_feed ∷ [])

room-rows : (s : Option ℕ) (t : List ℕ) (rs : Records) → with_rows into_room (room_after s (length t)) rs ≡ room_after s (length (with_rows into_text t rs))
room-rows s t [] = refl
room-rows s t (r ∷ rs) = ap (λ u. with_rows into_room u rs) (room-row s t r) ∙ room-rows s (with_row into_text t r) rs

passed : (limit n : ℕ) → is_none (room_after (Some limit) n) ≡ nat_lt limit n
passed limit n = elim (cases_lt limit n) [
  | inl past ↦ rw (lt-ltb limit n past) refl
  | inr fits ↦ rw (le-ltb limit n fits) refl
]

-- the rows of a file pass a room exactly where the file is longer
pub taken-room : (c : Content) (x : File) (limit : ℕ) → IsSound c
    → is_none (with_rows into_room (Some limit) (records_of_cells x (cells_in c x))) ≡ is_longer c limit x
taken-room c x limit sound =
    let rs = records_of_cells x (cells_in c x) in
    ap is_none (ap (λ s. with_rows into_room s rs) (sym (room-none (Some limit))) ∙ room-rows (Some limit) [] rs ∙ ap (λ t. room_after (Some limit) (length t)) (taken-text c x sound))
    ∙ passed limit (length (written_text c x))

-- ---- a field that is counted byte by byte

pub room-done : (s : Option ℕ) (field : List ℕ) (i : ℕ) → length field ≤ i → room_after s (length (escaped default_writer (drop i field))) ≡ s
unfolding escaped
room-done s field i past = ap (λ bs. room_after s (length (escaped default_writer bs))) (drop_all i field past) ∙ room-none s

pub room-quote : (s : Option ℕ) (field : List ℕ) (i : ℕ) → i < length field → get_or field i 0 ≡ 34
    → room_after (room_after s 2) (length (escaped default_writer (drop (i + 1) field))) ≡ room_after s (length (escaped default_writer (drop i field)))
unfolding escaped
room-quote s field i within is =
    let b = get_or field i 0 in
    let bs = drop (suc i) field in
    let sum : 2 + length (escaped default_writer bs) ≡ suc (suc (length (escaped default_writer bs))) = omega arith in
    let two : escaped default_writer (b ∷ bs) ≡ 34 ∷ b ∷ escaped default_writer bs = rw (eq-eqb b 34 is) refl in
    ap (λ n. room_after (room_after s 2) (length (escaped default_writer (drop n field)))) (add-one i)
    ∙ room-sum s 2 (length (escaped default_writer bs))
    ∙ ap (room_after s) sum
    ∙ ap (λ t. room_after s (length t)) (sym two)
    ∙ ap (λ ys. room_after s (length (escaped default_writer ys))) (sym (drop-cons field i 0 within))

pub room-other : (s : Option ℕ) (field : List ℕ) (i : ℕ) → i < length field → (get_or field i 0 == 34) ≡ false
    → room_after (room_after s 1) (length (escaped default_writer (drop (i + 1) field))) ≡ room_after s (length (escaped default_writer (drop i field)))
unfolding escaped
room-other s field i within not =
    let b = get_or field i 0 in
    let bs = drop (suc i) field in
    let sum : 1 + length (escaped default_writer bs) ≡ suc (length (escaped default_writer bs)) = omega arith in
    let one : escaped default_writer (b ∷ bs) ≡ b ∷ escaped default_writer bs = rw not refl in
    ap (λ n. room_after (room_after s 1) (length (escaped default_writer (drop n field)))) (add-one i)
    ∙ room-sum s 1 (length (escaped default_writer bs))
    ∙ ap (room_after s) sum
    ∙ ap (λ t. room_after s (length t)) (sym one)
    ∙ ap (λ ys. room_after s (length (escaped default_writer ys))) (sym (drop-cons field i 0 within))

-- ---- one file after another

pub not-yet : (c : Content) (limit i : ℕ) → i < 9 → list_any (is_longer c limit) (take i kept_files) ≡ false → is_longer c limit (get_or kept_files i file.Agency) ≡ false
    → list_any (is_longer c limit) (take (i + 1) kept_files) ≡ false
not-yet c limit i within before not = list_any_more (is_longer c limit) kept_files i file.Agency within ∙ rw (before, not) refl

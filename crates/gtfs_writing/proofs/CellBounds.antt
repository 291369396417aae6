-- How many bytes a row of cells takes at the most.
use Rattle.std.proofs.Common.{◌≡◌, ◌∙◌, refl, ◌==◌, ℕ, ◌+◌, ◌*◌, ◌/◌, ◌%◌, ◌^◌, ◌<◌, ◌≤◌, ◌++◌, ◌∷◌, List, [], Bool, true, false, map, length, nat_lt, nat_le, if◌then◌else◌, inl, inr, Some, None, length-append, arith}
use Rattle.std.specs.Prelude.{◌&&◌, pos, unsigned_abs}
use Rattle.std.specs.List.{list_all}
use Rattle.std.proofs.lemmas.Bool.{and_parts, cases_Bool, cases_lt, le-ltb, lt-ltb, ltb-true, leb-true}
use Rattle.std.proofs.lemmas.Fmt.{length-decimal-le}
use Rattle.std.proofs.lemmas.List.Folds.{list_any-append}
use Rattle.csv.specs.Writing.{default_writer, escaped, field_text, fields_text, is_blank, needs_byte, needs_quotes, row_text}
use Rattle.gtfs_field.specs.Canonical.{count_text, hours_text, time_text}
use Rattle.gtfs_field.specs.Digits.{wide}
use Rattle.gtfs_field.specs.Kinds.{is_in_ranges}
use Rattle.gtfs_field.proofs.Wides.{length-wide, wide-digits}
use Rattle.gtfs_schema.specs.Columns.{Kind, id, text, count, choice, time, date, colour, coordinate, Column}
use Rattle.gtfs_schema.specs.FieldValues.{Value, word, amount}
use Rattle.gtfs_rows.specs.Cells.{Cell, are_cells, cell_text, is_between, is_cell, is_of_kind, record_text, text_of}
use Rattle.gtfs_rows.proofs.CellTexts.{natural_between}
use Rattle.gtfs_table.specs.TableTexts.{text_of_records}
use Rattle.gtfs_writing.proofs.PlainTexts.{count-plain, digits-plain}

-- ---- fields

escaped-length : (field : List ℕ) → length (escaped default_writer field) ≤ 2 * length field
unfolding escaped
escaped-length [] = omega arith
escaped-length (b ∷ bs) = elim (cases_Bool (b == 34)) [
  | inl is ↦ rw is (omega (arith, escaped-length bs))
  | inr not ↦ rw not (omega (arith, escaped-length bs))
]

-- a quote doubles, and two stand around the field
quoted-length : (field : List ℕ) → length (field_text default_writer field) ≤ 2 * length field + 2
quoted-length field = elim (cases_Bool (needs_quotes default_writer field)) [
  | inl quoted ↦ rw quoted (omega (arith, escaped-length field, length-append (escaped default_writer field) (34 ∷ [])))
  | inr plain ↦ rw plain (omega arith)
]

plain-length : (field : List ℕ) → needs_quotes default_writer field ≡ false → length (field_text default_writer field) ≡ length field
plain-length field plain = rw plain refl

-- ---- numbers

count-length : (k n : ℕ) → 0 < k → n < 10 ^ k → n < 2 ^ 64 → length (field_text default_writer (count_text n)) ≤ k
count-length k n some below fits = omega (arith, plain-length (count_text n) (count-plain n (count_text n) fits refl), length-decimal-le k n some below fits)

joined-plain : (a b : List ℕ) → needs_quotes default_writer a ≡ false → needs_quotes default_writer b ≡ false → needs_quotes default_writer (a ++ b) ≡ false
joined-plain a b first second = list_any-append (needs_byte default_writer) a b ∙ rw (first, second) refl

hours-plain : (h : ℕ) → h < 1000 → (needs_quotes default_writer (hours_text h) ≡ false) × (length (hours_text h) ≤ 3)
hours-plain h small = elim (cases_lt h 100) [
  | inl two ↦ rw (lt-ltb h 100 two) (digits-plain (wide 2 h) (wide-digits 2 h), omega (arith, length-wide 2 h))
  | inr more ↦ rw (le-ltb h 100 more) (count-plain h (count_text h) (omega (arith, small)) refl, length-decimal-le 3 h (omega arith) (omega (arith, small)) (omega (arith, small)))
]

-- HHH:MM:SS at the most
time-length : (v : ℕ) → v ≤ 3_599_999 → length (field_text default_writer (time_text v)) ≤ 9
time-length v most =
    let h = v / 3600 in
    let hours = hours-plain h (omega (arith, most)) in
    let minutes = 58 ∷ wide 2 (v / 60 % 60) in
    let seconds = 58 ∷ wide 2 (v % 60) in
    let front = joined-plain (hours_text h) minutes hours.0 (digits-plain (wide 2 (v / 60 % 60)) (wide-digits 2 (v / 60 % 60))) in
    let plain = joined-plain (hours_text h ++ minutes) seconds front (digits-plain (wide 2 (v % 60)) (wide-digits 2 (v % 60))) in
    omega (
      arith,
      plain-length (time_text v) plain,
      hours.1,
      length-append (hours_text h ++ minutes) seconds,
      length-append (hours_text h) minutes,
      length-wide 2 (v / 60 % 60),
      length-wide 2 (v % 60),
    )

-- ---- cells

-- the choices are numbers of one digit
abbrev are_digits : List (ℕ × ℕ) → Bool
are_digits ranges = list_all (λ r. nat_lt r.1 10) ranges

digit-in : (ranges : List (ℕ × ℕ)) (n : ℕ) → is_in_ranges ranges n ≡ true → are_digits ranges ≡ true → n < 10
digit-in [] n inside small = cc
digit-in (r ∷ ranges) n inside small =
    let parts = and_parts (nat_lt r.1 10) (are_digits ranges) small in
    let end = ltb-true r.1 10 parts.0 in
    elim (cases_Bool (nat_le r.0 n && nat_le n r.1)) [
      | inl here ↦ omega (arith, end, leb-true n r.1 ((and_parts (nat_le r.0 n) (nat_le n r.1) here).1))
      | inr other ↦ digit-in ranges n (rw other at inside) parts.1
    ]

-- the kinds that are bounded here
abbrev is_bounded : Kind → Bool
is_bounded id = true
is_bounded text = true
is_bounded count = true
is_bounded (choice ranges) = true
is_bounded time = true
is_bounded date = false
is_bounded colour = false
is_bounded (coordinate axis) = false

-- the most bytes of a number of a kind
abbrev number_most : Kind → ℕ
number_most id = 0
number_most text = 0
number_most count = 10
number_most (choice ranges) = if are_digits ranges then 1 else 10
number_most time = 9
number_most date = 0
number_most colour = 0
number_most (coordinate axis) = 0

-- the most bytes of a cell
abbrev pub cell_most : Kind → Cell → ℕ
cell_most kind None = 0
cell_most kind (Some (word t)) = 2 * length t + 2
cell_most kind (Some (amount x)) = number_most kind

value-bound : (kind : Kind) (v : Value) → is_bounded kind ≡ true → is_of_kind kind v ≡ true → length (field_text default_writer (text_of kind v)) ≤ cell_most kind (Some v)
value-bound kind (word t) bounded inside = quoted-length t
value-bound id (amount x) bounded inside = cc
value-bound text (amount x) bounded inside = cc
value-bound count (amount x) bounded inside =
    let n = natural_between 2_147_483_647 x inside in
    count-length 10 (unsigned_abs x) (omega arith) (omega (arith, n.below)) (omega (arith, n.below))
value-bound (choice ranges) (amount x) bounded inside =
    let parts = and_parts (is_between (pos 0) (pos 2_147_483_647) x) (is_in_ranges ranges (unsigned_abs x)) inside in
    let n = natural_between 2_147_483_647 x parts.0 in
    elim (cases_Bool (are_digits ranges)) [
      | inl digits ↦ rw digits (count-length 1 (unsigned_abs x) (omega arith) (omega (arith, digit-in ranges (unsigned_abs x) parts.1 digits)) (omega (arith, n.below)))
      | inr long ↦ rw long (count-length 10 (unsigned_abs x) (omega arith) (omega (arith, n.below)) (omega (arith, n.below)))
    ]
value-bound time (amount x) bounded inside = let n = natural_between 3_599_999 x inside in time-length (unsigned_abs x) n.below
value-bound date (amount x) bounded inside = cc
value-bound colour (amount x) bounded inside = cc
value-bound (coordinate axis) (amount x) bounded inside = cc

cell-bound : (c : Column) (v : Cell) → is_bounded c.kind ≡ true → is_cell c v ≡ true → length (field_text default_writer (cell_text c.kind v)) ≤ cell_most c.kind v
cell-bound c None bounded inside = omega arith
cell-bound c (Some v) bounded inside = value-bound c.kind v bounded inside

-- ---- rows

-- the most bytes of some cells, and one more after each
abbrev pub cells_most : List Column → List Cell → ℕ
cells_most [] vs = 0
cells_most (c ∷ cs) [] = 0
cells_most (c ∷ cs) (v ∷ vs) = cell_most c.kind v + 1 + cells_most cs vs

abbrev pub are_bounded : List Column → Bool
are_bounded cs = list_all (λ c. is_bounded c.kind) cs

fields-bound : (cs : List Column) (vs : List Cell) → are_bounded cs ≡ true → are_cells cs vs ≡ true → length (fields_text default_writer (record_text cs vs)) ≤ cells_most cs vs
unfolding fields_text
fields-bound [] vs bounded inside = omega arith
fields-bound (c ∷ cs) [] bounded inside = cc
fields-bound (c ∷ cs) (v ∷ vs) bounded inside =
    let kinds = and_parts (is_bounded c.kind) (are_bounded cs) bounded in
    let cells = and_parts (is_cell c v) (are_cells cs vs) inside in
    omega (
      arith,
      cell-bound c v kinds.0 cells.0,
      fields-bound cs vs kinds.1 cells.1,
      length-append (field_text default_writer (cell_text c.kind v)) (fields_text default_writer (record_text cs vs)),
    )

-- a row of two cells or more: a comma stands before each but the first, and LF after all
row-of-two : (c d : Column) (cs : List Column) (v w : Cell) (vs : List Cell) → are_bounded (c ∷ d ∷ cs) ≡ true → are_cells (c ∷ d ∷ cs) (v ∷ w ∷ vs) ≡ true
    → length (row_text default_writer (record_text (c ∷ d ∷ cs) (v ∷ w ∷ vs))) ≤ cells_most (c ∷ d ∷ cs) (v ∷ w ∷ vs)
unfolding is_blank
row-of-two c d cs v w vs bounded inside =
    let kinds = and_parts (is_bounded c.kind) (are_bounded (d ∷ cs)) bounded in
    let cells = and_parts (is_cell c v) (are_cells (d ∷ cs) (w ∷ vs)) inside in
    let first = field_text default_writer (cell_text c.kind v) in
    let further = fields_text default_writer (record_text (d ∷ cs) (w ∷ vs)) in
    omega (arith, cell-bound c v kinds.0 cells.0, fields-bound (d ∷ cs) (w ∷ vs) kinds.1 cells.1, length-append first further, length-append (first ++ further) (10 ∷ []))

pub row-bound : (cs : List Column) (vs : List Cell) → 1 < length cs → are_bounded cs ≡ true → are_cells cs vs ≡ true
    → length (row_text default_writer (record_text cs vs)) ≤ cells_most cs vs
row-bound [] vs some bounded inside = absurd (omega (arith, some))
row-bound (c ∷ []) vs some bounded inside = absurd (omega (arith, some))
row-bound (c ∷ d ∷ cs) [] some bounded inside = cc
row-bound (c ∷ d ∷ cs) (v ∷ []) some bounded inside = let no = (and_parts (is_cell c v) false inside).1 in cc
row-bound (c ∷ d ∷ cs) (v ∷ w ∷ vs) some bounded inside = row-of-two c d cs v w vs bounded inside

-- rows that are each no longer than this
pub rows-bound : {X : Type 0} (cs : List Column) (cells : X → List Cell) (passes : X → Bool) (most : ℕ)
    → ((x : X) → passes x ≡ true → length (row_text default_writer (record_text cs (cells x))) ≤ most)
    → (xs : List X) → list_all passes xs ≡ true → length (text_of_records (map (record_text cs) (map cells xs))) ≤ length xs * most
unfolding text_of_records
rows-bound cs cells passes most each [] all = omega arith
rows-bound cs cells passes most each (x ∷ xs) all =
    let both = and_parts (passes x) (list_all passes xs) all in
    let own = each x both.0 in
    let rest = rows-bound cs cells passes most each xs both.1 in
    omega (arith, own, rest, length-append (row_text default_writer (record_text cs (cells x))) (text_of_records (map (record_text cs) (map cells xs))))

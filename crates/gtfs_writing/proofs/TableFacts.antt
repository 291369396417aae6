-- What rows make of the table of a file.
use Rattle.std.proofs.Common.{◌≡◌, ◌∙◌, ap, sym, refl, ℕ, ◌++◌, ◌∷◌, ◌==◌, ◌<◌, List, [], map, length, append-nil, append_assoc, arith, true, false, Result, Ok, Err}
use Rattle.std.specs.List.{list_all}
use Rattle.std.specs.Result.{OnOk}
use Rattle.std.proofs.lemmas.Bool.{and_parts, ne_eqb}
use Rattle.gtfs_table.specs.FieldOffsets.{add_to_last}
use Rattle.gtfs_table.specs.Tables.{Records, Table, Dataset, of_records, table_of, table_records, with_record, with_table}
use Rattle.gtfs_table.specs.declared.file.File.{File}
use Rattle.gtfs_table.specs.declared.file.File.TheVariants as file
use Rattle.gtfs_schema.specs.Columns.{Column, columns_of}
use Rattle.gtfs_rows.specs.Cells.{Cell, are_cells, record_text}
use Rattle.gtfs_rows.specs.Content.{Content}
use Rattle.gtfs_rows.specs.RowCells.{cells_in}
use Rattle.gtfs_rows.specs.SoundContent.{IsSound}
use Rattle.gtfs_rows.specs.WrittenContent.{records_of_cells}
use Rattle.gtfs_writing.specs.declared.table_rows.TableRows.{TableRows}
use Rattle.gtfs_writing.specs.TakenRecords.{into_table, with_fields, with_more, with_row, with_rows}

-- the tables with this one for a file, when rows of that file are taken
abbrev put : Dataset → File → Table → TableRows
put d x t = record { tables = with_table d x t; file = x }

-- ---- one table among nine

table-put : (d : Dataset) (x : File) (t : Table) → table_of (with_table d x t) x ≡ t
table-put d file.Agency t = refl
table-put d file.Stops t = refl
table-put d file.Routes t = refl
table-put d file.Trips t = refl
table-put d file.StopTimes t = refl
table-put d file.Calendar t = refl
table-put d file.CalendarDates t = refl
table-put d file.Frequencies t = refl
table-put d file.Transfers t = refl

put-again : (d : Dataset) (x : File) (t u : Table) → with_table (with_table d x t) x u ≡ with_table d x u
put-again d file.Agency t u = refl
put-again d file.Stops t u = refl
put-again d file.Routes t u = refl
put-again d file.Trips t u = refl
put-again d file.StopTimes t u = refl
put-again d file.Calendar t u = refl
put-again d file.CalendarDates t u = refl
put-again d file.Frequencies t u = refl
put-again d file.Transfers t u = refl

put-own : (d : Dataset) (x : File) → with_table d x (table_of d x) ≡ d
put-own d file.Agency = refl
put-own d file.Stops = refl
put-own d file.Routes = refl
put-own d file.Trips = refl
put-own d file.StopTimes = refl
put-own d file.Calendar = refl
put-own d file.CalendarDates = refl
put-own d file.Frequencies = refl
put-own d file.Transfers = refl

-- ---- fields, rows, and all rows

first-put : (d : Dataset) (x : File) (t : Table) (f : List ℕ) → into_table.first (put d x t) f ≡ put d x (with_record t f)
first-put d x t f =
    ap (λ u. record { tables = with_table (with_table d x t) x (with_record u f); file = x }) (table-put d x t)
    ∙ ap (λ e. record { tables = e; file = x }) (put-again d x t (with_record t f))

next-put : (d : Dataset) (x : File) (t : Table) (f : List ℕ) → into_table.next (put d x t) f ≡ put d x (with_more t f)
next-put d x t f =
    ap (λ u. record { tables = with_table (with_table d x t) x (with_more u f); file = x }) (table-put d x t)
    ∙ ap (λ e. record { tables = e; file = x }) (put-again d x t (with_more t f))

last-longer : (qs : Records) (r : List (List ℕ)) (f : List ℕ) → add_to_last (qs ++ r ∷ []) f ≡ qs ++ (r ++ f ∷ []) ∷ []
unfolding add_to_last
last-longer [] r f = refl
last-longer (q ∷ []) r f = refl
last-longer (q ∷ p ∷ qs) r f = ap (λ rest. q ∷ rest) (last-longer (p ∷ qs) r f)

filled : (qs : Records) (r : List (List ℕ)) → (length (qs ++ r ∷ []) == 0) ≡ false
filled [] r = refl
filled (q ∷ qs) r = ne_eqb (length (q ∷ (qs ++ r ∷ []))) 0 (λ e. omega (arith, e))

more-longer : (qs : Records) (r : List (List ℕ)) (f : List ℕ) → with_more (of_records (qs ++ r ∷ [])) f ≡ of_records (qs ++ (r ++ f ∷ []) ∷ [])
more-longer qs r f = rw (filled qs r) (ap of_records (last-longer qs r f))

fields-put : (d : Dataset) (x : File) (qs : Records) (r fs : List (List ℕ))
    → with_fields into_table (put d x (of_records (qs ++ r ∷ []))) fs ≡ put d x (of_records (qs ++ (r ++ fs) ∷ []))
fields-put d x qs r [] = ap (λ y. put d x (of_records (qs ++ y ∷ []))) (sym (append-nil r))
fields-put d x qs r (f ∷ fs) =
    ap (λ s. with_fields into_table s fs) (next-put d x (of_records (qs ++ r ∷ [])) f ∙ ap (put d x) (more-longer qs r f))
    ∙ fields-put d x qs (r ++ f ∷ []) fs
    ∙ ap (λ y. put d x (of_records (qs ++ y ∷ []))) (append_assoc r (f ∷ []) fs)

row-put : (d : Dataset) (x : File) (t : Table) (f : List ℕ) (fs : List (List ℕ))
    → with_row into_table (put d x t) (f ∷ fs) ≡ put d x (of_records (table_records t ++ (f ∷ fs) ∷ []))
row-put d x t f fs =
    ap (λ s. with_fields into_table s fs) (first-put d x t f) ∙ fields-put d x (table_records t) (f ∷ []) fs

rows-put : (d : Dataset) (x : File) (qs : Records) (k : Column) (ks : List Column) (vs : List (List Cell)) → list_all (are_cells (k ∷ ks)) vs ≡ true
    → with_rows into_table (put d x (of_records qs)) (map (record_text (k ∷ ks)) vs) ≡ put d x (of_records (qs ++ map (record_text (k ∷ ks)) vs))
rows-put d x qs k ks [] each = ap (λ rs. put d x (of_records rs)) (sym (append-nil qs))
rows-put d x qs k ks ([] ∷ vs) each = absurd (never each)
  where
    never : false ≡ true → ⊥
    never e = cc
rows-put d x qs k ks ((v ∷ row) ∷ vs) each =
    let r = record_text (k ∷ ks) (v ∷ row) in
    let rest = map (record_text (k ∷ ks)) vs in
    ap (λ s. with_rows into_table s rest) (row-put d x (of_records qs) _ (record_text ks row))
    ∙ rows-put d x (qs ++ r ∷ []) k ks vs ((and_parts (are_cells (k ∷ ks) (v ∷ row)) (list_all (are_cells (k ∷ ks)) vs) each).1)
    ∙ ap (λ rs. put d x (of_records rs)) (append_assoc qs (r ∷ []) rest)

whole : (d : Dataset) (x : File) (k : Column) (ks : List Column) (vs : List (List Cell)) → list_all (are_cells (k ∷ ks)) vs ≡ true
    → with_rows into_table (record { tables = d; file = x }) (map (λ c. c.name) (k ∷ ks) ∷ map (record_text (k ∷ ks)) vs)
    ≡ put d x (of_records (table_records (table_of d x) ++ map (λ c. c.name) (k ∷ ks) ∷ map (record_text (k ∷ ks)) vs))
whole d x k ks vs each =
    let header = map (λ c. c.name) (k ∷ ks) in
    let old = table_records (table_of d x) in
    let rest = map (record_text (k ∷ ks)) vs in
    ap (λ e. with_rows into_table (with_row into_table (record { tables = e; file = x }) header) rest) (sym (put-own d x))
    ∙ ap (λ s. with_rows into_table s rest) (row-put d x (table_of d x) k.name (map (λ c. c.name) ks))
    ∙ rows-put d x (old ++ header ∷ []) k ks vs each
    ∙ ap (λ rs. put d x (of_records rs)) (append_assoc old (header ∷ []) rest)

whole-of : (d : Dataset) (x : File) (ks : List Column) (vs : List (List Cell)) → 0 < length ks → list_all (are_cells ks) vs ≡ true
    → with_rows into_table (record { tables = d; file = x }) (map (λ c. c.name) ks ∷ map (record_text ks) vs)
    ≡ put d x (of_records (table_records (table_of d x) ++ map (λ c. c.name) ks ∷ map (record_text ks) vs))
whole-of d x [] vs some each = absurd (omega (arith, some))
whole-of d x (k ∷ ks) vs some each = whole d x k ks vs each

has_columns : (x : File) → 0 < length (columns_of x)
has_columns file.Agency = omega arith
has_columns file.Stops = omega arith
has_columns file.Routes = omega arith
has_columns file.Trips = omega arith
has_columns file.StopTimes = omega arith
has_columns file.Calendar = omega arith
has_columns file.CalendarDates = omega arith
has_columns file.Frequencies = omega arith
has_columns file.Transfers = omega arith

-- the records of a file stand at the end of its table
pub file-put : (d : Dataset) (c : Content) (x : File) → IsSound c
    → with_rows into_table (record { tables = d; file = x }) (records_of_cells x (cells_in c x))
    ≡ put d x (of_records (table_records (table_of d x) ++ records_of_cells x (cells_in c x)))
file-put d c x sound = whole-of d x (columns_of x) (cells_in c x) (has_columns x) (sound.cells x)

pub on_ok_tables : {T E : Type 0} (r : Result T E) (s u : TableRows) (d : Dataset) → OnOk r (s ≡ u) → u.tables ≡ d → OnOk r (s.tables ≡ d)
on_ok_tables (Ok v) s u d e same = ap (λ (x : TableRows). x.tables) e ∙ same
on_ok_tables (Err v) s u d e same = tt

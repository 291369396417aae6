-- The text of a file of the written form reads back.
use Rattle.std.proofs.Common.{◌≡◌, ◌∙◌, ap, sym, refl, subst, ℕ, ◌<◌, ◌∷◌, true, List, [], map, length, arith, Some}
use Rattle.std.specs.List.{list_all}
use Rattle.std.specs.Str.{IsUtf8, is_utf8}
use Rattle.std.proofs.lemmas.Bool.{and_parts}
use Rattle.std.proofs.lemmas.List.Elements.{All-nil, All-cons}
use Rattle.std.proofs.lemmas.Str.{is_utf8-from_IsUtf8}
use Rattle.gtfs_table.specs.Tables.{Records, of_records, table_of, table_of_bytes, without_marks}
use Rattle.gtfs_table.specs.TableTexts.{text_of_records}
use Rattle.gtfs_table.specs.declared.file.File.{File}
use Rattle.gtfs_table.specs.declared.file.File.TheVariants as file
use Rattle.gtfs_table.proofs.StoreFacts.{AllFilled}
use Rattle.gtfs_table.proofs.WriteFacts.{records-text}
use Rattle.gtfs_schema.specs.Columns.{Column, columns_of}
use Rattle.gtfs_rows.specs.Cells.{Cell, are_cells, record_text}
use Rattle.gtfs_rows.specs.Content.{Content}
use Rattle.gtfs_rows.specs.RowCells.{cells_in}
use Rattle.gtfs_rows.specs.SoundContent.{IsSound}
use Rattle.gtfs_rows.specs.WrittenContent.{records_of_cells, written}
use Rattle.gtfs_rows.specs.FileTexts.{written_text}
use Rattle.gtfs_rows.proofs.FileTexts.{text-of-cells, written-table}
use Rattle.gtfs_writing.proofs.TextFacts.{has_columns}

-- ---- no record is without a field

abbrev is_filled : List (List ℕ) → Type 0
is_filled r = 0 < length r

filled-rows : (k : Column) (ks : List Column) (vs : List (List Cell)) → list_all (are_cells (k ∷ ks)) vs ≡ true → AllFilled (map (record_text (k ∷ ks)) vs)
filled-rows k ks [] each = All-nil is_filled
filled-rows k ks ([] ∷ vs) each = absurd (cc each)
filled-rows k ks ((v ∷ row) ∷ vs) each =
    All-cons is_filled _ _ (omega arith) (filled-rows k ks vs ((and_parts (are_cells (k ∷ ks) (v ∷ row)) (list_all (are_cells (k ∷ ks)) vs) each).1))

filled-of : (ks : List Column) (vs : List (List Cell)) → 1 < length ks → list_all (are_cells ks) vs ≡ true
    → AllFilled (map (λ c. c.name) ks ∷ map (record_text ks) vs)
filled-of [] vs some each = absurd (omega (arith, some))
filled-of (k ∷ ks) vs some each = All-cons is_filled _ _ (omega arith) (filled-rows k ks vs each)

-- ---- the header begins with no mark

unmarked : (c : Content) (x : File) → without_marks (text_of_records (records_of_cells x (cells_in c x))) ≡ text_of_records (records_of_cells x (cells_in c x))
unfolding text_of_records without_marks
unmarked c file.Agency = refl
unmarked c file.Stops = refl
unmarked c file.Routes = refl
unmarked c file.Trips = refl
unmarked c file.StopTimes = refl
unmarked c file.Calendar = refl
unmarked c file.CalendarDates = refl
unmarked c file.Frequencies = refl
unmarked c file.Transfers = refl

-- ---- the whole

again : (rs : Records) → AllFilled rs → without_marks (text_of_records rs) ≡ text_of_records rs → IsUtf8 (text_of_records rs)
    → table_of_bytes (Some (text_of_records rs)) ≡ of_records rs
unfolding table_of_bytes
again rs filled bytes text =
    let good : is_utf8 (text_of_records rs) ≡ true = is_utf8-from_IsUtf8 (text_of_records rs) text in
    rw (bytes, good, records-text rs filled) refl

pub reads-back : (c : Content) (x : File) → IsSound c → IsUtf8 (written_text c x) → table_of_bytes (Some (written_text c x)) ≡ table_of (written c) x
reads-back c x sound text =
    let same = text-of-cells c x in
    ap (λ t. table_of_bytes (Some t)) same
    ∙ again (records_of_cells x (cells_in c x)) (filled-of (columns_of x) (cells_in c x) (has_columns x) (sound.cells x)) (unmarked c x) (subst IsUtf8 same text)
    ∙ sym (written-table c x)

-- The text of a file of the written form, by its table and by the cells of its rows.
use Rattle.std.proofs.Common.{◌≡◌, ◌∙◌, ap, sym, refl, Some}
use Rattle.gtfs_table.specs.Tables.{of_records, table_of, table_records}
use Rattle.gtfs_table.specs.TableTexts.{text_of_records, text_of_table}
use Rattle.gtfs_table.specs.declared.file.File.{File}
use Rattle.gtfs_table.specs.declared.file.File.TheVariants as file
use Rattle.gtfs_rows.specs.Content.{Content}
use Rattle.gtfs_rows.specs.FileTexts.{written_text}
use Rattle.gtfs_rows.specs.RowCells.{cells_in}
use Rattle.gtfs_rows.specs.WrittenContent.{records_of_cells, written}

-- the table of a file of the written form
pub written-table : (c : Content) (x : File) → table_of (written c) x ≡ of_records (records_of_cells x (cells_in c x))
written-table c file.Agency = refl
written-table c file.Stops = refl
written-table c file.Routes = refl
written-table c file.Trips = refl
written-table c file.StopTimes = refl
written-table c file.Calendar = refl
written-table c file.CalendarDates = refl
written-table c file.Frequencies = refl
written-table c file.Transfers = refl

pub text-of-cells : (c : Content) (x : File) → written_text c x ≡ text_of_records (records_of_cells x (cells_in c x))
text-of-cells c x = ap (λ t. text_of_records (table_records t)) (written-table c x)

-- what is written of a table is its text
pub table-text : (c : Content) (x : File) → text_of_table (table_of (written c) x) ≡ Some (written_text c x)
table-text c x = ap text_of_table (written-table c x) ∙ ap Some (sym (text-of-cells c x))

-- The written form of a content: nine tables, each with the header of its kept columns and a row of canonical texts for each row.
-- GTFS Schedule Reference, the fields of each file.
use Rattle.std.specs.Prelude.{ℕ, List, [], ◌∷◌, map}
use Rattle.gtfs_table.specs.Tables.{Records, Table, Dataset, of_records}
use Rattle.gtfs_table.specs.declared.file.File.{File}
use Rattle.gtfs_table.specs.declared.file.File.TheVariants as file
use Rattle.gtfs_schema.specs.Columns.{columns_of}
use Rattle.gtfs_rows.specs.Cells.{Cell, record_text}
use Rattle.gtfs_rows.specs.Content.{Content}
use Rattle.gtfs_rows.specs.RowCells.{cells_in}

-- the header and the rows of these cells
abbrev pub records_of_cells : File → List (List Cell) → Records
records_of_cells x rows = map (λ c. c.name) (columns_of x) ∷ map (record_text (columns_of x)) rows

abbrev pub table_of_cells : File → List (List Cell) → Table
table_of_cells x rows = of_records (records_of_cells x rows)

-- the tables of cells for each file, in a folder that holds other names, too
abbrev pub dataset_of_cells : List (List ℕ) → (File → List (List Cell)) → Dataset
dataset_of_cells others cells = record {
  agency = table_of_cells file.Agency (cells file.Agency);
  stops = table_of_cells file.Stops (cells file.Stops);
  routes = table_of_cells file.Routes (cells file.Routes);
  trips = table_of_cells file.Trips (cells file.Trips);
  stop_times = table_of_cells file.StopTimes (cells file.StopTimes);
  calendar = table_of_cells file.Calendar (cells file.Calendar);
  calendar_dates = table_of_cells file.CalendarDates (cells file.CalendarDates);
  frequencies = table_of_cells file.Frequencies (cells file.Frequencies);
  transfers = table_of_cells file.Transfers (cells file.Transfers);
  others = others;
}

-- the written form of a content in a folder that holds other names, too
abbrev pub written_beside : List (List ℕ) → Content → Dataset
written_beside others c = dataset_of_cells others (cells_in c)

-- the written form of a content: the nine files, and no other name
abbrev pub written : Content → Dataset
written c = written_beside [] c

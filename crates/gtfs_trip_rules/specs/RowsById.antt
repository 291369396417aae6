-- Rows of a file with their ids, as the code keeps them: ascending by id.
use Rattle.std.specs.Prelude.{ℕ, List, bytes_eq, filter, map, Option}
use Rattle.std.specs.List.Sorted.{IsSortedByKey}
use denote.Ref.{Bor}
use Rattle.gtfs_field.specs.TextOrder.{text_cmp}
use Rattle.gtfs_table.specs.Rows.{records_in}
use Rattle.gtfs_table.specs.Tables.{Dataset, field_under, record_at}
use Rattle.gtfs_table.specs.declared.file.File.{File}

-- the text of a row under the column of an index
abbrev pub text_under : Dataset → File → Option ℕ → ℕ → List ℕ
text_under d x index n = field_under (record_at (records_in d x) n) index

abbrev pub IdRow : Type 0
IdRow = Bor (List ℕ) × ℕ

abbrev pub row_with_id : IdRow → List ℕ × ℕ
row_with_id r = (r.0.now, r.1)

-- the rows with an id
abbrev pub rows_of : List (List ℕ × ℕ) → List ℕ → List ℕ
rows_of rs id = map (λ r. r.1) (filter (λ r. bytes_eq r.0 id) rs)

abbrev pub IsById : List IdRow → Type 0
IsById rs = IsSortedByKey (λ r. r.0.now) text_cmp rs

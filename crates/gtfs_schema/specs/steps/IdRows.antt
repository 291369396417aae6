-- Rows with their ids.
use Rattle.std.specs.Prelude.{ℕ, List, bytes_eq, find, Option, option_map}
use Rattle.gtfs_schema.specs.declared.id_row.IdRow.{IdRow}

abbrev pub id_of : IdRow → List ℕ
id_of r = r.id.now

-- a row with its id, as an entry
abbrev pub id_and_row : IdRow → List ℕ × ℕ
id_and_row r = (id_of r, r.row)

-- the row that is listed first with an id
abbrev pub listed_row : List IdRow → List ℕ → Option ℕ
listed_row rows id = option_map (λ r. r.row) (find (λ r. bytes_eq (id_of r) id) rows)

-- The cell of a row under a column's name, and its text.
use Rattle.std.specs.Prelude.{ℕ, bytes_eq, if◌then◌else◌, List, [], ◌∷◌, None}
use Rattle.gtfs_schema.specs.Columns.{Column}
use Rattle.gtfs_rows.specs.Cells.{Cell, cell_text}

-- the first cell whose column has the name
abbrev pub cell_named : List Column → List Cell → List ℕ → Cell
cell_named [] vs name = None
cell_named (c ∷ cs) [] name = None
cell_named (c ∷ cs) (v ∷ vs) name = if bytes_eq c.name name then v else cell_named cs vs name

abbrev pub text_named : List Column → List Cell → List ℕ → List ℕ
text_named [] vs name = []
text_named (c ∷ cs) [] name = []
text_named (c ∷ cs) (v ∷ vs) name = if bytes_eq c.name name then cell_text c.kind v else text_named cs vs name

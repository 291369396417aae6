-- The location types of stops by their rows.
use Rattle.std.specs.Prelude.{◌≡◌, ℕ, List, [], ◌∷◌, slice_index_or, Option, option_and_then, ℤ, codes}
use Rattle.gtfs_table.specs.Tables.{Dataset}
use Rattle.gtfs_table.specs.declared.file.File.TheVariants as file
use Rattle.gtfs_schema.specs.Columns.{id}
use Rattle.gtfs_schema.specs.steps.Ids.{FirstRows, first_row_with}
use Rattle.gtfs_schema.specs.ReadFields.{choice_of, word_of}
use Rattle.gtfs_schema.specs.RowConditions.{choice_in}

-- the location type that a text is
abbrev pub type_in_text : List ℕ → Option ℤ
type_in_text t = choice_of ((0, 4) ∷ []) (codes "0") t

-- the type of a row: that of an empty text where there is none
abbrev pub type_of : List (Option ℤ) → ℕ → Option ℤ
type_of types n = slice_index_or types n (type_in_text [])

-- the list has the location type of each record of stops.txt
abbrev pub AreStopTypes : Dataset → List (Option ℤ) → Type 0
AreStopTypes d types = (n : ℕ) → type_of types n ≡ choice_in d file.Stops n "location_type"

-- the type of the stop of an id
abbrev pub type_with : List (Option ℤ) → FirstRows → List ℕ → Option ℤ
type_with types i t = option_and_then (type_of types) (option_and_then (first_row_with i) (word_of id t))

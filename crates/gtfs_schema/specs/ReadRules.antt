-- What a dataset that passes promises of its values: reading one never fails.
-- GTFS Schedule Reference, "Presence" and "Field Types".
use Rattle.std.specs.Prelude.{◌≡◌, ℕ, ◌||◌, not, Bool, true, false, List, Option, Some, is_some}
use Rattle.gtfs_table.specs.Tables.{Dataset}
use Rattle.gtfs_table.specs.Rows.{is_empty, is_row, records_in}
use Rattle.gtfs_table.specs.declared.file.File.{File}
use Rattle.gtfs_schema.specs.Columns.{Kind, Empty, refused, nothing, means, Column, column_named}
use Rattle.gtfs_schema.specs.Problems.{Passes}
use Rattle.gtfs_schema.specs.RowConditions.{text_in}
use Rattle.gtfs_schema.specs.FieldValues.{readable, meaning}

-- an empty value of the column is no value
abbrev pub may_lack : Empty → Bool
may_lack refused = false
may_lack nothing = true
may_lack (means t) = false

-- ---- a text under a column

-- there is a value of the kind just where the text is not empty
abbrev pub IsReadAs : Kind → List ℕ → Type 0
IsReadAs kind t = is_some (readable kind t) ≡ not (is_empty t)

-- no text under the column is unreadable, and where the column always has a value it is there: that of the text,
-- or where the text is empty the one that an empty value means
pub record IsReadUnder (c : Column) (t : List ℕ) : Type 0 where
  pub read : IsReadAs c.kind t
  pub there : (may_lack c.empty || is_some (readable c.kind (meaning c.empty t))) ≡ true

-- ---- texts of datasets that pass

-- the text stands under this column in a row of a dataset that passes
pub record StandsUnder (c : Column) (t : List ℕ) : Type 0 where
  pub dataset : Dataset
  pub passes : Passes dataset
  pub file : File
  pub row : ℕ
  pub is_row : is_row (records_in dataset file) row ≡ true
  pub name : List ℕ
  pub kept : column_named file name ≡ Some c
  pub text : t ≡ text_in dataset file row name

-- it stands there under a column of this kind, which has this to say of empty values
pub record StandsAs (kind : Kind) (empty : Empty) (t : List ℕ) : Type 0 where
  pub column : Column
  pub stands : StandsUnder column t
  pub kind_is : column.kind ≡ kind
  pub empty_is : column.empty ≡ empty

-- a reading of the text fails where the text is empty, and never else, if the text is of a dataset that passes
abbrev pub FailsIfEmpty : {X : Type 0} → Kind → List ℕ → Option X → Type 0
FailsIfEmpty kind t found = (e : Empty) → StandsAs kind e t → is_some found ≡ not (is_empty t)

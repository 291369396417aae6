-- The ids of a column of a file, and the first row of each.
use Rattle.std.specs.Prelude.{◌≡◌, ◌<◌, ℕ, Bool, map, not, List, Option, Some}
use Rattle.std.specs.List.{All, list_all}
use Rattle.std.specs.FinMap as table
use Rattle.std.specs.List.Sorted.{IsStrictlySortedBy}
use Rattle.std.specs.Ordering.{on}
use Rattle.gtfs_field.specs.TextOrder.{text_cmp}
use Rattle.gtfs_schema.specs.declared.id_row.IdRow.{IdRow}
use Rattle.gtfs_schema.specs.declared.slots.Slot.{Slot}
use Rattle.gtfs_schema.specs.steps.IdRows.{id_and_row, id_of, listed_row}
use Rattle.gtfs_schema.specs.steps.IdSlots.{held_id, IsSlotOf}
pub use Rattle.gtfs_schema.specs.IdNumbers.{first_rows}
use Rattle.gtfs_schema.specs.IdNumbers.{number_among}
use Rattle.gtfs_schema.specs.FieldValues.{has_control}

-- the first row of each id
abbrev pub FirstRows : Type 0
FirstRows = table.FinMap text_cmp ℕ

-- those that rows are listed with
abbrev pub listed_first_rows : List IdRow → FirstRows
listed_first_rows listed = table.from_entries (map id_and_row listed)

-- the first row with an id
abbrev pub first_row_with : FirstRows → List ℕ → Option ℕ
first_row_with ids id = table.get ids id

-- the ids by their numbers
abbrev pub ids_of : FirstRows → List (List ℕ)
ids_of ids = table.keys ids

-- the first row of each id, by their numbers
abbrev pub rows_by_number : FirstRows → List ℕ
rows_by_number ids = table.values ids

-- the number of an id
abbrev pub number_with : FirstRows → List ℕ → Option ℕ
number_with ids id = number_among (ids_of ids) id

-- of the rows with an id the first is listed first
abbrev pub ListsFirstRows : FirstRows → List IdRow → Type 0
ListsFirstRows ids rows = (id : List ℕ) → listed_row rows id ≡ first_row_with ids id

-- each id once, in order, with its first row
pub record IsIdIndex (ids : FirstRows) (rows : List IdRow) : Type 0 where
  pub ascending : IsStrictlySortedBy (on id_of text_cmp) rows
  pub first : ListsFirstRows ids rows

-- no id has a control character
abbrev pub are_clear : FirstRows → Bool
are_clear ids = list_all (λ id. not (has_control id)) (ids_of ids)

-- the same of ids as they are listed
abbrev pub rows_are_clear : List IdRow → Bool
rows_are_clear rows = list_all (λ r. not (has_control (id_of r))) rows

-- an id that stands in a slot has its first row and its number there
pub record Tells (ids : FirstRows) (s : Slot) : Type 0 where
  pub row : Some s.row ≡ first_row_with ids (held_id s)
  pub number : Some s.number ≡ number_with ids (held_id s)

-- what a slot says is true of the id that stands there, where one does
abbrev pub Answers : FirstRows → Slot → Type 0
Answers ids s = 0 < s.length → Tells ids s

-- whatever slot a row has, what it says is true
abbrev pub AnswersRow : FirstRows → IdRow → ℕ → Type 0
AnswersRow ids r n = (s : Slot) → IsSlotOf r n s → Answers ids s

-- an index with its slots, and whether its ids have no control character
pub record IsFilledIndex (ids : FirstRows) (rows : List IdRow) (slots : List Slot) (is_clear : Bool) : Type 0 where
  pub index : IsIdIndex ids rows
  pub clear : is_clear ≡ rows_are_clear rows
  pub answers : All (Answers ids) slots

-- Slots, in which ids that are short stand.
use Rattle.std.specs.Prelude.{◌≡◌, ◌<◌, ℕ, List, take}
use Rattle.gtfs_schema.specs.declared.finder.FoundId.{FoundId}
use Rattle.gtfs_schema.specs.declared.id_row.IdRow.{IdRow}
use Rattle.gtfs_schema.specs.declared.slots.Slot.{Slot}
use Rattle.gtfs_schema.specs.steps.IdRows.{id_of}

-- the id that stands in a slot
abbrev pub held_id : Slot → List ℕ
held_id s = take s.length s.head

-- an id that stands in the slot of a row is that of the row
pub record Holds (r : IdRow) (n : ℕ) (s : Slot) : Type 0 where
  pub held : held_id s ≡ id_of r
  pub row : s.row ≡ r.row
  pub number : s.number ≡ n

-- the slot of a row, by its number
abbrev pub IsSlotOf : IdRow → ℕ → Slot → Type 0
IsSlotOf r n s = 0 < s.length → Holds r n s

-- an id stands in a slot, and this is known of it
pub record IsFoundIn (s : Slot) (id : List ℕ) (found : FoundId) : Type 0 where
  pub stands : 0 < s.length
  pub held : held_id s ≡ id
  pub row : found.row ≡ s.row
  pub number : found.number ≡ s.number

-- The headsigns of stop times, each at its number.
-- GTFS Schedule Reference, `stop_headsign` of stop_times.txt. A text is the list of its bytes.
use Rattle.std.specs.Prelude.{◌≡◌, ◌<◌, ◌≤◌, ℕ, List, length, AllPairs, All, Option, Some, None, false, bytes_eq, slice_get}
use Rattle.gtfs_schema.specs.FieldValues.{plain}

-- no control character is in them
abbrev pub ArePlain : List (List ℕ) → Type 0
ArePlain ts = All (λ t. plain t ≡ t) ts

-- no text stands there twice
abbrev pub AreDistinct : List (List ℕ) → Type 0
AreDistinct ts = AllPairs (λ s t. bytes_eq s t ≡ false) ts

-- each number still names its text
abbrev pub KeepsHeadsigns : List (List ℕ) → List (List ℕ) → Type 0
KeepsHeadsigns old new = (k : ℕ) (t : List ℕ) → slice_get old k ≡ Some t → slice_get new k ≡ Some t

-- no other number than this one is new
abbrev pub AddsOnly : List (List ℕ) → List (List ℕ) → Option ℕ → Type 0
AddsOnly old new n = (k : ℕ) → length old ≤ k → k < length new → n ≡ Some k

-- the number is that of this headsign, and there is none where there is no headsign
abbrev pub NamesHeadsign : List (List ℕ) → Option ℕ → Option (List ℕ) → Type 0
NamesHeadsign ts None w = w ≡ None
NamesHeadsign ts (Some k) None = ⊥
NamesHeadsign ts (Some k) (Some t) = slice_get ts k ≡ Some t

-- Which seconds of a trip are covered, where each trip has a number and spans are kept by it.
use Rattle.std.specs.Prelude.{◌≡◌, ◌⊎◌, ℕ, ◌<◌, ◌≤◌, Bool, false, List, bytes_eq, Option, Some, None}
use Rattle.std.specs.Borrow.{Bor}
use Rattle.std.specs.BTreeMap.{BTreeMap, btree_map_len, get_by}
use Rattle.std.specs.Cmp.Lexicographic.{slice_cmp}
use Rattle.std.specs.Ordering.{nat_cmp}
use Rattle.gtfs_schema.specs.FieldValues.{if_there}
use Rattle.gtfs_trip_rules.specs.PeriodSpans.{Spans, covers}

abbrev pub Numbers : Type 0
Numbers = BTreeMap (Bor (List ℕ)) ℕ

abbrev pub number_of : Numbers → List ℕ → Option ℕ
number_of numbers trip = get_by (λ key. slice_cmp nat_cmp trip key.now) numbers

-- a span of the trip shares a second with this period
abbrev pub covers_trip : Numbers → Spans → List ℕ → ℕ → ℕ → Bool
covers_trip numbers spans trip start end = if_there (number_of numbers trip) (λ n. covers spans n start end)

-- no two trips have one number, and each number is below their count
pub record AreDistinct (numbers : Numbers) : Type 0 where
  pub below : (trip : List ℕ) (n : ℕ) → number_of numbers trip ≡ Some n → n < btree_map_len numbers
  pub one : (a b : List ℕ) (n : ℕ) → number_of numbers a ≡ Some n → number_of numbers b ≡ Some n → a ≡ b

-- numbers that no trip has cover nothing
abbrev pub AreOfTrips : Numbers → Spans → Type 0
AreOfTrips numbers spans = (n start end : ℕ) → btree_map_len numbers ≤ n → covers spans n start end ≡ false

-- a trip got this number, which it had before or is a new one; others keep theirs
pub record IsNumbered (old new : Numbers) (trip : List ℕ) (n : ℕ) : Type 0 where
  pub here : number_of new trip ≡ Some n
  pub was : (number_of old trip ≡ Some n) ⊎ ((number_of old trip ≡ None) × (btree_map_len old ≤ n))
  pub others : (t : List ℕ) → bytes_eq trip t ≡ false → number_of new t ≡ number_of old t
  pub grows : btree_map_len old ≤ btree_map_len new

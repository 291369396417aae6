-- The numbers of trips: first those of trips.txt by their bytes, and then others in the order in which rows first name them.
use Rattle.std.specs.Prelude.{◌≡◌, ℕ, ◌+◌, ◌<◌, ◌++◌, List, [], bytes_eq, length, map, get_or, position, Option, Some}
use Rattle.std.specs.Borrow.{Bor}
use Rattle.std.specs.BTreeMap.{BTreeMap, get_by}
use Rattle.std.specs.Cmp.Lexicographic.{slice_cmp}
use Rattle.std.specs.List.{All}
use Rattle.std.specs.Option.{option_or}
use Rattle.std.specs.Ordering.{nat_cmp}
use Rattle.gtfs_stop_times.specs.declared.stop_time.StopTime.{StopTime}
use Rattle.gtfs_trip_rules.specs.TripStopTimes.{TripStopTime, trip_stop_time}

-- the number among the trips that trips.txt lacks
abbrev pub other_number : BTreeMap (Bor (List ℕ)) ℕ → List ℕ → Option ℕ
other_number numbers id = get_by (λ key. slice_cmp nat_cmp id key.now) numbers

-- the number of a trip: its rank in trips.txt by bytes, and of other trips the number that they were given
abbrev pub number_of_trip : List (List ℕ) → BTreeMap (Bor (List ℕ)) ℕ → List ℕ → Option ℕ
number_of_trip trips numbers id = option_or (position (λ k. bytes_eq k id) trips) (other_number numbers id)

-- the trip of a number
abbrev pub name_at : List (List ℕ) → List (Bor (List ℕ)) → ℕ → List ℕ
name_at trips names n = get_or (trips ++ map (λ name. name.now) names) n []

-- each number is that of one trip
abbrev pub AreNamed : List (List ℕ) → BTreeMap (Bor (List ℕ)) ℕ → List (Bor (List ℕ)) → Type 0
AreNamed trips numbers names = (id : List ℕ) (n : ℕ) → number_of_trip trips numbers id ≡ Some n
    → (n < length trips + length names) × (name_at trips names n ≡ id)

-- each number stays
abbrev pub Keeps : List (List ℕ) → BTreeMap (Bor (List ℕ)) ℕ → BTreeMap (Bor (List ℕ)) ℕ → Type 0
Keeps trips old new = (id : List ℕ) (n : ℕ) → number_of_trip trips old id ≡ Some n → number_of_trip trips new id ≡ Some n

-- each row has its trip's number
abbrev pub HaveNumbers : List (List ℕ) → BTreeMap (Bor (List ℕ)) ℕ → List (Bor (List ℕ)) → List StopTime → Type 0
HaveNumbers trips numbers names rows = All (λ r. number_of_trip trips numbers (name_at trips names r.trip) ≡ Some r.trip) rows

-- each number is that of one trip, and each row has its trip's number
pub record AreNumbered (trips : List (List ℕ)) (numbers : BTreeMap (Bor (List ℕ)) ℕ) (names : List (Bor (List ℕ))) (rows : List StopTime) : Type 0 where
  pub named : AreNamed trips numbers names
  pub numbered : HaveNumbers trips numbers names rows

-- ---- rows whose trips have some numbers

-- no other trip has the number of the row's trip
abbrev pub IsNumbered : (List ℕ → ℕ) → (ℕ → List ℕ) → StopTime → Type 0
IsNumbered number name r = number (name r.trip) ≡ r.trip

abbrev pub AllNumbered : (List ℕ → ℕ) → (ℕ → List ℕ) → List StopTime → Type 0
AllNumbered number name = All (IsNumbered number name)

-- these rows, as they are kept
pub record AreRowsNumbered (rows : List TripStopTime) (kept : List StopTime) : Type 0 where
  pub number : List ℕ → ℕ
  pub name : ℕ → List ℕ
  pub numbered : AllNumbered number name kept
  pub same : map (trip_stop_time name) kept ≡ rows

-- What is kept of the rows of stop_times.txt: how many name a trip, by the numbers of trips, and whether each has a sequence.
use Rattle.std.specs.Prelude.{◌≡◌, ◌==◌, ℕ, Bool, true, List, filter, get_or, length, min, nat_lt, option_map, reverse}
use Rattle.std.specs.Borrow.{Bor}
use Rattle.std.specs.BTreeMap.{BTreeMap}
use Rattle.std.specs.List.{All}
use Rattle.std.specs.Option.{unwrap_or}
use Rattle.gtfs_stop_times.specs.declared.stop_time.StopTime.{StopTime}
use Rattle.gtfs_trip_rules.specs.declared.trips.judge.Judge.{Judge}
use Rattle.gtfs_stop_times.specs.KeptTimes.{is_placed}
use Rattle.gtfs_trip_rules.specs.JudgedTrips.{Judges}
use Rattle.gtfs_trip_rules.specs.TripNumbers.{number_of_trip, AreNumbered}

-- of each number how many rows have it, up to two
abbrev pub AreCounts : List ℕ → List StopTime → Type 0
AreCounts counts rows = (n : ℕ) → get_or counts n 0 ≡ min (length (filter (λ r. n == r.trip) rows)) 2

-- how many rows name a trip, up to two; a trip without a number has none
abbrev pub count_of : List (List ℕ) → BTreeMap (Bor (List ℕ)) ℕ → List ℕ → List ℕ → ℕ
count_of trips numbers counts trip = unwrap_or (option_map (λ n. get_or counts n 0) (number_of_trip trips numbers trip)) 0

-- fewer than two rows name the trip
abbrev pub are_few : List (List ℕ) → BTreeMap (Bor (List ℕ)) ℕ → List ℕ → List ℕ → Bool
are_few trips numbers counts trip = nat_lt (count_of trips numbers counts trip) 2

-- each row has a sequence, where this says so
abbrev pub AreSequenced : Bool → List StopTime → Type 0
AreSequenced are rows = are ≡ true → All (λ r. is_placed r.times ≡ true) rows

-- what is kept beside the rows is right of them
pub record AreKept (trips : List (List ℕ)) (numbers : BTreeMap (Bor (List ℕ)) ℕ) (names : List (Bor (List ℕ))) (counts : List ℕ) (are_sequenced : Bool) (judge : Judge) (rows : List StopTime) : Type 0 where
  pub numbered : AreNumbered trips numbers names rows
  pub counted : AreCounts counts rows
  pub located : AreSequenced are_sequenced rows
  pub judged : Judges judge (reverse rows)

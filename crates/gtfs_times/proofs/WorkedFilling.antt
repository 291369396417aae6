-- What the definitions say of the times of small trips.
use Rattle.std.proofs.Common.{◌≡◌, ◌∷◌, [], codes, refl, ℕ, List, Option, Some, None, map}
use Rattle.gtfs_rows.specs.Rows.{StopRow}
use Rattle.gtfs_times.specs.Filling.{filled_rows, timed_stop_rows}
use Rattle.gtfs_rows.specs.SoundContent.{comes, leaves}
use Rattle.gtfs_times.specs.declared.times.Times.TheVariants as times

abbrev row : List ℕ → Option ℕ → Option ℕ → ℕ → StopRow
row stop arrival departure sequence = record {
  arrival_time = arrival;
  departure_time = departure;
  stop_id = stop;
  stop_sequence = sequence;
  stop_headsign = None;
  pickup_type = 0;
  drop_off_type = 0;
  timepoint = None;
}

-- eight o'clock, two rows without a time, and ten minutes and a second later: sequences play no part
abbrev two_between : List StopRow
two_between = row (codes "S1") (Some 28800) (Some 28800) 1 ∷ row (codes "S3") None None 2 ∷ row (codes "S1") None None 5
    ∷ row (codes "S2") (Some 29401) (Some 29401) 9 ∷ []

thirds : map leaves (filled_rows two_between) ≡ Some 28800 ∷ Some 29000 ∷ Some 29200 ∷ Some 29401 ∷ []
thirds = refl

reached-then : map comes (filled_rows two_between) ≡ Some 28800 ∷ Some 29000 ∷ Some 29200 ∷ Some 29401 ∷ []
reached-then = refl

given : map leaves (timed_stop_rows times.Given two_between) ≡ Some 28800 ∷ None ∷ None ∷ Some 29401 ∷ []
given = refl

-- from when the row before is left until the row after is reached; one of their times is enough, and none is passed over
abbrev stays : List StopRow
stays = row (codes "S1") (Some 100) (Some 200) 1 ∷ row (codes "S2") None None 2 ∷ row (codes "S3") (Some 301) None 3
    ∷ row (codes "S4") None None 4 ∷ row (codes "S5") (Some 400) (Some 900) 5 ∷ []

nearest : map leaves (filled_rows stays) ≡ Some 200 ∷ Some 250 ∷ Some 301 ∷ Some 350 ∷ Some 900 ∷ []
nearest = refl

-- a timed row keeps its two times
kept : map comes (filled_rows stays) ≡ Some 100 ∷ Some 250 ∷ Some 301 ∷ Some 350 ∷ Some 400 ∷ []
kept = refl

-- no time where none is before, or none after: no feed that passes has such a trip
open_ends : map leaves (filled_rows (row (codes "S1") None None 1 ∷ row (codes "S2") (Some 60) None 2 ∷ row (codes "S3") None None 3 ∷ []))
    ≡ None ∷ Some 60 ∷ None ∷ []
open_ends = refl

-- Stops of two feeds that lie close together.
-- The rule is this project's; the columns are those of the GTFS Schedule Reference, stops.txt.
use Rattle.std.specs.Prelude.{ℕ, ◌*◌, ◌==◌, ◌&&◌, Bool, true, false, nat_eq, nat_le, List, bytes_eq, unsigned_abs, ◌-ℤ◌, ℤ, Option, Some, None, is_some, option_map}
use Rattle.std.specs.Option.{option_eq}
use Rattle.gtfs_rows.specs.RowChoices.{location_code}
use Rattle.gtfs_rows.specs.declared.stop.Stop.{Stop}

-- both coordinates are there and differ by at most n millionths of a degree, which are a thousand units each
abbrev pub are_close : ℕ → Option ℤ → Option ℤ → Bool
are_close n None y = false
are_close n (Some x) None = false
are_close n (Some x) (Some y) = nat_le (unsigned_abs (x -ℤ y)) (n * 1000)

abbrev pub same_given_name : Option (List ℕ) → Option (List ℕ) → Bool
same_given_name a b = is_some a && option_eq bytes_eq a b

-- neither stop has a parent, or that of B's stop became that of A's
abbrev pub is_same_parent : Option ℕ → Option ℕ → Option ℕ → Bool
is_same_parent None None parent = true
is_same_parent None (Some y) parent = false
is_same_parent (Some x) None parent = false
is_same_parent (Some x) (Some y) parent = option_eq nat_eq (Some x) parent

-- a stop y of B, whose parent became the stop of A with this number, is near a stop x of A: of one type, name and parent, and close
abbrev pub is_near_row : ℕ → Stop → Option ℕ → Stop → Bool
is_near_row n y parent x = (location_code y.location_type == location_code x.location_type)
    && same_given_name y.stop_name x.stop_name
    && are_close n y.stop_lat x.stop_lat
    && are_close n y.stop_lon x.stop_lon
    && is_same_parent (option_map (λ m. m.0) x.parent_station) (option_map (λ m. m.0) y.parent_station) parent

-- the stops among which near ones are found, and up to how many millionths of a degree stops are near
pub record NearStops : Type 0 where
  pub stops : List Stop
  pub near : ℕ

-- Flags by number, and the numbers for which they are set.
use Rattle.std.specs.Prelude.{◌≡◌, ◌<◌, ℕ, ◌==◌, Bool, true, false, if◌then◌else◌, List, length, slice_index_or, Option, Some, None, is_none, is_some, option_map}
use Rattle.gtfs_rows.specs.RowChoices.{location_code}
use Rattle.gtfs_rows.specs.declared.stop.Stop.{Stop}
use Rattle.gtfs_rows.specs.declared.trip.Trip.{Trip}

-- at each number below the size stands whether it passes a test
pub record AreMarks (size : ℕ) (test : ℕ → Bool) (marks : List Bool) : Type 0 where
  pub count : length marks ≡ size
  pub at : (k : ℕ) → k < size → slice_index_or marks k false ≡ test k

-- the number of the station to which a stop or platform belongs
abbrev pub station_of : Stop → Option ℕ
station_of s = if location_code s.location_type == 0 then option_map (λ n. n.0) s.parent_station else None

-- whether a trip has a direction, or that it has none
abbrev pub is_directed : Bool → Trip → Bool
is_directed true t = is_some t.direction_id
is_directed false t = is_none t.direction_id

-- the number of its route, of a trip with a direction, or of one without
abbrev pub route_if : Bool → Trip → Option ℕ
route_if directed t = if is_directed directed t then Some t.route_id.0 else None

-- The place of a stop.
-- GTFS Schedule Reference, stops.txt: location_type and parent_station.
use Rattle.std.specs.Prelude.{ℕ, ◌==◌, ◌&&◌, ◌||◌, Bool, List, map, bytes_eq}
use Rattle.std.specs.List.{list_any}
use Rattle.gtfs_rows.specs.Content.{Content}
use Rattle.gtfs_rows.specs.Rows.{Stop}
use Rattle.gtfs_schema.specs.FieldValues.{if_there}

-- a stop or a platform, and no station, entrance, node or boarding area
abbrev pub is_plain_stop : Stop → Bool
is_plain_stop s = s.location_type == 0

-- the place of a stop: the stop, and each stop or platform whose parent it is
abbrev pub is_in_place : Content → List ℕ → List ℕ → Bool
is_in_place c s x = bytes_eq x s
    || list_any (λ stop. bytes_eq stop.stop_id x && is_plain_stop stop && if_there stop.parent_station (bytes_eq s)) c.stops

-- whether the place of a stop has each stop, in the order of their ids
abbrev pub members : Content → List ℕ → List Bool
members c s = map (λ stop. is_in_place c s stop.stop_id) c.stops

-- Stops of two feeds that lie close together become one.
-- The rule is this project's.
use Rattle.std.specs.Prelude.{ℕ, ◌==◌, ◌&&◌, if◌then◌else◌, List, [], ◌++◌, length, filter_map, bytes_eq, codes, decimal, option_map, Option, Some, None}
use Rattle.std.specs.Option.{option_eq}
use Rattle.gtfs_nearby.specs.NearRows.{are_close, same_given_name}
use Rattle.gtfs_rows.specs.Content.{Content}
use Rattle.gtfs_rows.specs.Rows.{Stop}
use Rattle.gtfs_merge.specs.Renaming.{Nearness, joined_stop, near_stop_under, never_near, stop_b}
use Rattle.gtfs_merge.specs.MergeReport.{merge_report}

-- a stop of B is near a stop of A: of one type, name and parent, and close
abbrev pub near_by : ℕ → Nearness
near_by n rename y x = (y.location_type == x.location_type)
    && same_given_name y.stop_name x.stop_name
    && are_close n y.stop_lat x.stop_lat
    && are_close n y.stop_lon x.stop_lon
    && option_eq bytes_eq (option_map rename y.parent_station) x.parent_station

-- up to how many millionths of a degree stops are near, if any are
abbrev pub nearness : Option ℕ → Nearness
nearness None = never_near
nearness (Some n) = near_by n

-- a stop of B that is not joined, with the stop of A that it is near, if any
abbrev pub near_pair : Nearness → Content → Content → Stop → Option (List ℕ × List ℕ)
near_pair near a b y =
    if joined_stop near a b y.stop_id then None
    else option_map (λ x. (y.stop_id, x)) (near_stop_under near (stop_b near a b) a b y.stop_id)

-- all of them, by the ids of B
abbrev pub near_pairs : Nearness → Content → Content → List (List ℕ × List ℕ)
near_pairs near a b = filter_map (near_pair near a b) b.stops

-- the last line of the report, only with the option
abbrev pub near_line : Option ℕ → ℕ → List ℕ
near_line None count = []
near_line (Some n) count = codes "near stop " ++ decimal count ++ codes "\n"

-- the report of a merge
abbrev pub report : Option ℕ → Content → Content → List ℕ
report o a b = merge_report (nearness o) a b ++ near_line o (length (near_pairs (nearness o) a b))

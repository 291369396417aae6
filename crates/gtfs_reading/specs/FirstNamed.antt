-- The headsigns that stop times name, in the order of their numbers.
-- GTFS Schedule Reference, `stop_headsign` of stop_times.txt. A text is the list of its bytes.
use Rattle.std.specs.Prelude.{ℕ, List, [], ◌∷◌, bytes_eq, filter, filter_map, flat_map, not}
use Rattle.gtfs_rows.specs.Content.{Content}

-- each text once, where it first stands
unfoldable pub each_once : List (List ℕ) → List (List ℕ)
each_once [] = []
each_once (t ∷ ts) = t ∷ filter (λ s. not (bytes_eq t s)) (each_once ts)

-- the headsigns of a content's stop times, in the order in which these first name them: trip after trip, and in each
-- trip by sequence
abbrev pub headsigns_in : Content → List (List ℕ)
headsigns_in f = each_once (filter_map (λ r. r.stop_headsign) (flat_map (λ t. t.stop_rows) f.trips))

-- What a board shows of a departure.
-- GTFS Schedule Reference, routes.txt (names), trips.txt and stop_times.txt (headsigns), frequencies.txt (`exact_times`).
use Rattle.std.specs.Prelude.{◌≡◌, ℕ, ◌==◌, ◌&&◌, not, Bool, true, false, List, [], bytes_eq, find, Option, Some, option_map, option_and_then, unwrap_or}
use Rattle.std.specs.List.{list_any}
use Rattle.std.specs.Option.{option_or}
use Rattle.gtfs_rows.specs.Content.{Content}
use Rattle.gtfs_rows.specs.Rows.{Route, StopRow, Trip}
use Rattle.gtfs_rows.specs.Runs.{is_timed, starts_run}
use Rattle.gtfs_board.specs.declared.departure.Mark.{Mark}
use Rattle.gtfs_board.specs.declared.departure.Mark.TheVariants as mark
use Rattle.gtfs_rows.specs.Key.{Key}
use Rattle.gtfs_board.specs.BoardLines.{Listed}

-- the short name of a route, or where it has none the long one
abbrev pub name_of_route : Route → Option (List ℕ)
name_of_route r = option_or r.route_short_name r.route_long_name

-- the name of the route with this id; nothing where it has none
abbrev pub route_name : Content → List ℕ → List ℕ
route_name f id = unwrap_or (option_and_then name_of_route (find (λ r. bytes_eq r.route_id id) f.routes)) []

-- the headsign of the stop row, or where it has none that of the trip; nothing where neither has one
abbrev pub headsign : Trip → StopRow → List ℕ
headsign t row = unwrap_or (option_or row.stop_headsign t.trip_headsign) []

-- whether the times of the run are not exact, and whether the row has no time of its own
abbrev pub mark_if : Bool → Bool → Mark
mark_if false false = mark.Scheduled
mark_if true false = mark.Frequency
mark_if false true = mark.ScheduledFilled
mark_if true true = mark.FrequencyFilled

-- a run of a frequency row whose `exact_times` is 0 is marked, and so is a row without a time of its own
abbrev pub mark_of : Trip → ℕ → StopRow → Mark
mark_of t run row = mark_if (list_any (λ p. starts_run p run && (p.exact_times == 0)) t.frequencies) (not (is_timed row))

-- the trip of an id, and its row of a sequence
abbrev pub trip_with_id : Content → List ℕ → Option Trip
trip_with_id f id = find (λ t. bytes_eq t.trip_id id) f.trips

abbrev pub row_numbered : Trip → ℕ → Option StopRow
row_numbered t sequence = find (λ row. row.stop_sequence == sequence) t.stop_rows

-- what is shown of a run of a trip that departs from a row
abbrev pub shown_at : Content → Key → Trip → StopRow → Listed
shown_at f k t row = record { key = k; stop = row.stop_id; route = route_name f t.route_id; headsign = headsign t row; mark = mark_of t k.run row }

-- what is shown of the departure with this key
abbrev pub shown : Content → Key → Option Listed
shown f k = option_and_then (λ t. option_map (shown_at f k t) (row_numbered t k.sequence)) (trip_with_id f k.trip)

abbrev pub IsShown : Content → Listed → Type 0
IsShown f d = shown f d.key ≡ Some d

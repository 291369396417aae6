-- The departures of a feed, and those that a stop's board lists.
-- GTFS Schedule Reference, trips.txt, stop_times.txt, frequencies.txt, calendar.txt and calendar_dates.txt.
use Rattle.std.specs.Prelude.{◌≡◌, ℕ, ◌==◌, ◌&&◌, Bool, true, List, bytes_eq, Option, Some, None, ℤ, pos, ◌+ℤ◌, int_le, int_lt}
use Rattle.std.specs.List.{list_any}
use Rattle.std.specs.Ordering.{int_eq, is_eq, is_lt}
use Rattle.gtfs_days.specs.Service.{is_active}
use Rattle.gtfs_rows.specs.Content.{Content}
use Rattle.gtfs_rows.specs.TransferOrder.{Ascends}
use Rattle.gtfs_rows.specs.Rows.{StopRow, Trip}
use Rattle.gtfs_rows.specs.Places.{is_in_place}
use Rattle.gtfs_rows.specs.Runs.{is_run, is_departure_row, passes_at}
use Rattle.gtfs_rows.specs.Key.{Key, key_cmp}

-- where each service day begins in a zone: noon less twelve hours, in seconds of the epoch
abbrev pub Origins : Type 0
Origins = ℤ → ℤ

-- the service of a trip runs on the day
abbrev pub runs_on : Content → Trip → ℤ → Bool
runs_on f t d = list_any (λ s. bytes_eq s.service_id t.service_id && is_active s.service d) f.services

-- the key names a departure from a row that the test passes: a trip, a day on which it runs, one of its runs and
-- one of its departure rows, at the instant at which that run passes that row
abbrev pub departs_from : Content → Origins → (StopRow → Bool) → Key → Bool
departs_from f origin test k = list_any (λ t. bytes_eq t.trip_id k.trip && runs_on f t k.day && is_run t k.run
    && list_any (λ row. (row.stop_sequence == k.sequence) && is_departure_row t row && test row
    && int_eq k.instant (origin k.day +ℤ pos (passes_at t k.run row))) t.stop_rows) f.trips

abbrev pub any_row : StopRow → Bool
any_row row = true

-- the departures of a feed
abbrev pub is_departure : Content → Origins → Key → Bool
is_departure f origin k = departs_from f origin any_row k

-- those at the place of a stop
abbrev pub departs_at : Content → Origins → List ℕ → Key → Bool
departs_at f origin s k = departs_from f origin (λ row. is_in_place f s row.stop_id) k

-- the key lies above this one, or there is none
abbrev pub is_above : Option Key → Key → Bool
is_above None x = true
is_above (Some k) x = is_lt (key_cmp k x)

-- the first instant is in the span, and the last is not
abbrev pub is_within : ℤ → ℤ → ℤ → Bool
is_within from until x = int_le from x && int_lt x until

-- a key belongs on the board of a stop over a span, above a key
abbrev pub is_listed : Content → Origins → List ℕ → ℤ → ℤ → Option Key → Key → Bool
is_listed f origin s from until after k = departs_at f origin s k && is_within from until k.instant && is_above after k

-- each key lies below those after it
abbrev pub IsAscending : List Key → Type 0
IsAscending ks = Ascends key_cmp ks

abbrev pub is_member : Key → List Key → Bool
is_member k xs = list_any (λ x. is_eq (key_cmp k x)) xs

-- the board: the strictly ascending list whose members are exactly the keys that belong on it
pub record IsBoard (f : Content) (origin : Origins) (s : List ℕ) (from until : ℤ) (after : Option Key) (xs : List Key) : Type 0 where
  pub ascending : IsAscending xs
  pub members : (k : Key) → is_member k xs ≡ is_listed f origin s from until after k

-- Which services have trips.
use Rattle.std.specs.Prelude.{ℕ, ◌==◌, ◌&&◌, not, Bool, true, false, List, [], length, bytes_eq, slice_index_or}
use Rattle.std.specs.List.{list_any}
use Rattle.gtfs_rows.specs.Rows.{ServiceRow, Trip}
use Rattle.gtfs_rows.specs.RowsInMemory.{content_of_parts, service_ids}
use Rattle.gtfs_rows.specs.declared.parts.Parts.{Parts}
use Rattle.gtfs_advice.specs.NumberMarks.{AreMarks}
use Rattle.gtfs_advice.specs.Services.{has_week}

-- a trip of the service with this id, and one with a stop time where only these count
abbrev pub is_trip_of : Bool → List ℕ → Trip → Bool
is_trip_of with_calls id t = bytes_eq t.service_id id && not (with_calls && (length t.stop_rows == 0))

-- at the number of each service stands whether it has such a trip
abbrev pub AreServiceMarks : Parts → Bool → List Bool → Type 0
AreServiceMarks p with_calls marks = AreMarks (length p.services)
    (λ k. list_any (is_trip_of with_calls (slice_index_or (service_ids p) k [])) (content_of_parts p).trips) marks

-- the service stands under calendar.txt, or else under calendar_dates.txt
abbrev pub stands_under : Bool → ServiceRow → Bool
stands_under true s = has_week s
stands_under false s = not (has_week s)

-- The rows of a dataset with its stop times are its content.
use Rattle.std.proofs.Common.{◌≡◌, ◌∷◌, [], List, map, refl}
use Rattle.gtfs_field.proofs.ListFacts.{first_is, rest_is}
use Rattle.gtfs_table.specs.FieldOffsets.{parts}
use Rattle.gtfs_table.specs.Tables.{Dataset}
use Rattle.gtfs_rows.specs.declared.frequency.Frequency.{Frequency as FrequencyRow}
use Rattle.gtfs_rows.specs.declared.parts.Parts.{Parts}
use Rattle.gtfs_stop_times.specs.declared.stop_row.StopRow.{StopRow as StopTime}
use Rattle.gtfs_rows.specs.declared.trip.Trip.{Trip as TripRow}
use Rattle.gtfs_rows.specs.ContentRead.{content_of}
use Rattle.gtfs_rows.specs.Rows.{Trip}
use Rattle.gtfs_rows.specs.RowsInMemory.{content_of_parts, frequency_of, route_ids, service_ids, stop_row_of, trip_of, trips_of}
use Rattle.gtfs_reading.specs.FeedRows.{AreRowsOf, rows_in}
use Rattle.gtfs_rows.specs.NamedRows.{trip_named, without_rows}

module _ (p : Parts) where
  abbrev as_named : TripRow → Trip
  as_named = trip_named (route_ids p) (service_ids p)

  -- a trip is its own row, its stop times and its frequencies
  trip_made : (t : TripRow) (r : List StopTime) (f : List FrequencyRow) (u : Trip) → as_named t ≡ without_rows u → map (stop_row_of p) r ≡ u.stop_rows
      → map frequency_of f ≡ u.frequencies → trip_of p t r f ≡ u
  trip_made t r f u own rows periods = λ i. record {
    route_id = (own i).route_id;
    service_id = (own i).service_id;
    trip_id = (own i).trip_id;
    trip_headsign = (own i).trip_headsign;
    trip_short_name = (own i).trip_short_name;
    direction_id = (own i).direction_id;
    wheelchair_accessible = (own i).wheelchair_accessible;
    bikes_allowed = (own i).bikes_allowed;
    stop_rows = rows i;
    frequencies = periods i;
  }

  trips_made : (ts : List TripRow) (rs : List (List StopTime)) (fs : List (List FrequencyRow)) (us : List Trip)
      → map as_named ts ≡ map without_rows us → map (map (stop_row_of p)) rs ≡ map (λ u. u.stop_rows) us → map (map frequency_of) fs ≡ map (λ u. u.frequencies) us
      → trips_of p ts rs fs ≡ us
  trips_made [] rs fs [] own rows periods = refl
  trips_made [] rs fs (u ∷ us) own rows periods = cc own
  trips_made (t ∷ ts) rs fs [] own rows periods = cc own
  trips_made (t ∷ ts) [] fs (u ∷ us) own rows periods = cc rows
  trips_made (t ∷ ts) (r ∷ rs) [] (u ∷ us) own rows periods = cc periods
  trips_made (t ∷ ts) (r ∷ rs) (f ∷ fs) (u ∷ us) own rows periods = λ i.
      trip_made t r f u (first_is _ _ _ _ own) (first_is _ _ _ _ rows) (first_is _ _ _ _ periods) i
      ∷ trips_made ts rs fs us (rest_is _ _ _ _ own) (rest_is _ _ _ _ rows) (rest_is _ _ _ _ periods) i

pub content_is : (p : Parts) (d : Dataset) → AreRowsOf d (rows_in p)
    → map (map (stop_row_of p)) (parts p.stop_times.starts p.stop_times.rows) ≡ map (λ t. t.stop_rows) (content_of d).trips → content_of_parts p ≡ content_of d
content_is p d are stop_times = λ i. record {
  agencies = are.agencies i;
  stops = are.stops i;
  routes = are.routes i;
  services = are.services i;
  trips = trips_made p p.trips (parts p.stop_times.starts p.stop_times.rows) (parts p.frequency_starts p.frequencies) (content_of d).trips are.trips stop_times are.frequencies i;
  transfers = are.transfers i;
}

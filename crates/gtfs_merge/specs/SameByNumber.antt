-- Rows of two feeds, as their parts keep them by number, compared once the references of the second feed are renamed.
use Rattle.std.specs.Prelude.{Bool, List, bytes_eq, map, option_map}
use Rattle.std.specs.Cmp.Lexicographic.{pointwise}
use Rattle.gtfs_rows.specs.declared.frequency.Frequency.{Frequency}
use Rattle.gtfs_rows.specs.declared.parts.Parts.{Parts}
use Rattle.gtfs_rows.specs.declared.route.Route.{Route}
use Rattle.gtfs_rows.specs.declared.stop.Stop.{Stop}
use Rattle.gtfs_stop_times.specs.declared.stop_row.StopRow.{StopRow}
use Rattle.gtfs_rows.specs.declared.trip.Trip.{Trip}
use Rattle.gtfs_rows.specs.RowsInMemory.{frequency_of, route_of, stop_of, stop_row_of, text_of_number, trip_of, route_ids, service_ids}
use Rattle.gtfs_merge.specs.Renaming.{Renaming, kept_as_is, route_with, stop_with, stop_row_with, trip_with}
use Rattle.gtfs_merge.specs.SameRows.{same_frequency, same_stop, same_route, same_stop_row, same_text, same_trip}

-- ---- stops

abbrev pub same_stop_in : Parts → Parts → Renaming → Stop → Stop → Bool
same_stop_in p q rename x y = same_stop (stop_of p x) (stop_with rename (stop_of q y))

abbrev pub same_parent_in : Parts → Parts → Renaming → Stop → Stop → Bool
same_parent_in p q rename x y = same_text (stop_of p x).parent_station (option_map rename (stop_of q y).parent_station)

-- ---- routes; an agency of either side may get a new name

abbrev pub same_route_in : Parts → Parts → Renaming → Renaming → Route → Route → Bool
same_route_in p q rename_a rename_b x y =
    same_route (route_with kept_as_is rename_a (route_of p x)) (route_with kept_as_is rename_b (route_of q y))

abbrev pub same_agency_in : Parts → Parts → Renaming → Renaming → Route → Route → Bool
same_agency_in p q rename_a rename_b x y = bytes_eq (rename_a (route_of p x).agency_id) (rename_b (route_of q y).agency_id)

-- ---- stop times

abbrev pub same_stop_row_in : Parts → Parts → Renaming → StopRow → StopRow → Bool
same_stop_row_in p q rename x y = same_stop_row (stop_row_of p x) (stop_row_with rename (stop_row_of q y))

abbrev pub same_stop_id_in : Parts → Parts → Renaming → StopRow → StopRow → Bool
same_stop_id_in p q rename x y = bytes_eq (stop_row_of p x).stop_id (rename (stop_row_of q y).stop_id)

abbrev pub same_headsign_in : Parts → Parts → StopRow → StopRow → Bool
same_headsign_in p q x y = same_text (stop_row_of p x).stop_headsign (stop_row_of q y).stop_headsign

-- ---- trips, with their stop times and frequencies

abbrev pub same_trip_in : Parts → Parts → Renaming → Renaming → Renaming → Trip → List StopRow → List Frequency → Trip → List StopRow → List Frequency → Bool
same_trip_in p q route service stop x xs us y ys vs = same_trip (trip_of p x xs us) (trip_with kept_as_is route service stop (trip_of q y ys vs))

abbrev pub same_route_id_in : Parts → Parts → Renaming → Trip → Trip → Bool
same_route_id_in p q rename x y = bytes_eq (text_of_number (route_ids p) x.route_id.0) (rename (text_of_number (route_ids q) y.route_id.0))

abbrev pub same_service_id_in : Parts → Parts → Renaming → Trip → Trip → Bool
same_service_id_in p q rename x y = bytes_eq (text_of_number (service_ids p) x.service_id.0) (rename (text_of_number (service_ids q) y.service_id.0))

abbrev pub same_stop_rows_in : Parts → Parts → Renaming → List StopRow → List StopRow → Bool
same_stop_rows_in p q rename xs ys = pointwise same_stop_row (map (stop_row_of p) xs) (map (stop_row_with rename) (map (stop_row_of q) ys))

abbrev pub same_frequencies_in : List Frequency → List Frequency → Bool
same_frequencies_in us vs = pointwise same_frequency (map frequency_of us) (map frequency_of vs)

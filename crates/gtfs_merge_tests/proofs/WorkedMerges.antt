-- Reports of merges of small feeds, and a transfer of one. 19814 is 1 April 2024.
use Rattle.std.proofs.Common.{◌≡◌, ◌∷◌, [], codes, refl, ℕ, pos, List, Some, None, true}
use Rattle.std.specs.Prelude.{◌+◌, ◌++◌, flat_map}
use Rattle.std.specs.Fmt.{digits}
use Prim.Native.String.{String as Literal}
use Rattle.gtfs_days.specs.Service.{ServiceDates}
use Rattle.gtfs_rows.specs.Content.{Content}
use Rattle.gtfs_rows.specs.Rows.{Agency, Stop, Route, StopRow, Trip, Transfer}
use Rattle.gtfs_merge.specs.Merged.{transfer_with}
use Rattle.gtfs_merge.specs.Renaming.{names_b, never_near}
use Rattle.gtfs_merge.specs.MergeReport.{merge_report}

abbrev agency : List ℕ → Agency
agency name = record {
  agency_id = [];
  agency_name = name;
  agency_url = codes "http://m.example";
  agency_timezone = codes "UTC";
  agency_lang = None;
  agency_phone = None;
  agency_fare_url = None;
  agency_email = None;
}

-- a stop of a type, without a parent
abbrev pub stop : List ℕ → List ℕ → ℕ → Stop
stop id name type = record {
  stop_id = id;
  stop_code = None;
  stop_name = Some name;
  tts_stop_name = None;
  stop_desc = None;
  stop_lat = Some (pos 52500000000);
  stop_lon = Some (pos 13400000000);
  stop_url = None;
  location_type = type;
  parent_station = None;
  wheelchair_boarding = 0;
  platform_code = None;
}

abbrev inside : List ℕ → Stop → Stop
inside parent s = record s { parent_station = Some parent }

abbrev route : Route
route = record {
  route_id = codes "R1";
  agency_id = [];
  route_short_name = Some (codes "10");
  route_long_name = None;
  route_desc = None;
  route_type = 3;
  route_url = None;
  route_color = 16777215;
  route_text_color = 0;
  route_sort_order = None;
}

abbrev daily : ServiceDates
daily = record {
  week = Some (record { days = true ∷ true ∷ true ∷ true ∷ true ∷ true ∷ true ∷ []; start = pos 19814; end = pos 19814 });
  exceptions = [];
}

abbrev pub stop_row : List ℕ → ℕ → ℕ → StopRow
stop_row id seconds sequence = record {
  arrival_time = Some seconds;
  departure_time = Some seconds;
  stop_id = id;
  stop_sequence = sequence;
  stop_headsign = None;
  pickup_type = 0;
  drop_off_type = 0;
  timepoint = None;
}

-- a trip from the first stop to the second in ten minutes
abbrev pub trip : List ℕ → ℕ → Trip
trip id seconds = record {
  route_id = codes "R1";
  service_id = codes "C1";
  trip_id = id;
  trip_headsign = None;
  trip_short_name = None;
  direction_id = None;
  wheelchair_accessible = 0;
  bikes_allowed = 0;
  stop_rows = stop_row (codes "S1") seconds 1 ∷ stop_row (codes "S2") (600 + seconds) 2 ∷ [];
  frequencies = [];
}

abbrev pub stops : List Stop
stops = stop (codes "S1") (codes "Mill") 0 ∷ stop (codes "S2") (codes "Lake") 0 ∷ stop (codes "S3") (codes "Hill") 0 ∷ []

abbrev pub feed : List ℕ → List Stop → List Trip → Content
feed name stops trips = record {
  agencies = agency name ∷ [];
  stops = stops;
  routes = route ∷ [];
  services = record { service_id = codes "C1"; service = daily } ∷ [];
  trips = trips;
  transfers = [];
}

abbrev pub small : Content
small = feed (codes "Metro") stops (trip (codes "T1") 28800 ∷ [])

abbrev pub lines : List Literal → List ℕ
lines ls = flat_map (λ l. codes l ++ codes "\n") ls

itself : merge_report never_near small small
    ≡ lines ("joined agency 1" ∷ "joined stop 3" ∷ "joined route 1" ∷ "joined service 1" ∷ "joined trip 1" ∷ [])
unfolding digits
itself = refl

-- A has a trip T1_merged_1, and B's trip T1 has other times
abbrev with_second : Content
with_second = feed (codes "Metro") stops (trip (codes "T1") 28800 ∷ trip (codes "T1_merged_1") 32400 ∷ [])

abbrev at_ten : Content
at_ten = feed (codes "Metro") stops (trip (codes "T1") 36000 ∷ [])

other_times : merge_report never_near with_second at_ten
    ≡ lines ("B\ttrip\tT1\tT1_merged_2" ∷ "joined agency 1" ∷ "joined stop 3" ∷ "joined route 1" ∷ "joined service 1" ∷ "joined trip 0" ∷ [])
unfolding digits
other_times = refl

abbrev waiting : Transfer
waiting = record {
  from_stop_id = Some (codes "S1");
  to_stop_id = Some (codes "S2");
  from_route_id = None;
  to_route_id = None;
  from_trip_id = Some (codes "T1");
  to_trip_id = None;
  transfer_type = 2;
  min_transfer_time = Some 60;
}

transfer_renamed : transfer_with (names_b never_near with_second at_ten) waiting
    ≡ record waiting { from_trip_id = Some (codes "T1_merged_2") }
unfolding digits
transfer_renamed = refl

-- B's agency has another name; both ids are empty
abbrev rail : Content
rail = feed (codes "Rail") stops (trip (codes "T1") 28800 ∷ [])

two_agencies : merge_report never_near small rail
    ≡ lines ("A\tagency\t\tagency_merged_1" ∷ "B\tagency\t\tagency_merged_2" ∷ "B\troute\tR1\tR1_merged_1" ∷ "B\ttrip\tT1\tT1_merged_1"
    ∷ "joined agency 0" ∷ "joined stop 3" ∷ "joined route 0" ∷ "joined service 1" ∷ "joined trip 0" ∷ [])
unfolding digits
two_agencies = refl

-- a station, a stop in it and a boarding area of that stop
abbrev stations : List ℕ → Content
stations id = feed (codes "Metro")
    (inside (codes "S1") (stop (codes "B1") (codes "Edge") 4) ∷ stop id (codes "Hub") 1 ∷ inside id (stop (codes "S1") (codes "Mill") 0) ∷ [])
    []

station_joined : merge_report never_near (stations (codes "H1")) (stations (codes "H1"))
    ≡ lines ("joined agency 1" ∷ "joined stop 3" ∷ "joined route 1" ∷ "joined service 1" ∷ "joined trip 0" ∷ [])
unfolding digits
station_joined = refl

station_of_another_id : merge_report never_near (stations (codes "H1")) (stations (codes "H2"))
    ≡ lines ("B\tstop\tB1\tB1_merged_1" ∷ "B\tstop\tS1\tS1_merged_1"
    ∷ "joined agency 1" ∷ "joined stop 0" ∷ "joined route 1" ∷ "joined service 1" ∷ "joined trip 0" ∷ [])
unfolding digits
station_of_another_id = refl

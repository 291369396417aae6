-- For each code a smallest change to the small feed, and the whole report of it.
use Rattle.std.proofs.Common.{◌≡◌, ◌∷◌, [], codes, refl}
use Rattle.std.specs.Fmt.{digits}
use Rattle.jiff_core.specs.Calendar.{days_from_civil, day_count, days_of_years, days_of_months, weekday_number}
use Rattle.gtfs_table.specs.Blanks.{without_first_blanks}
use Rattle.gtfs_table.specs.Tables.{absent, not_utf8}
use Rattle.gtfs_rules_tests.proofs.WorkedFeeds.{file, small_feed, calendar_header, reported, lines}

-- E01
file-missing : reported (record small_feed { agency = absent }) ≡ lines
    ("E01 agency.txt:0 - file missing"
    ∷ "errors 1 warnings 0"
    ∷ [])
unfolding without_first_blanks digits days_from_civil day_count days_of_years days_of_months
    weekday_number
file-missing = refl

-- E02
not-utf8 : reported (record small_feed {
  stop_times = not_utf8;
}) ≡ lines
    ("W06 trips.txt:2 trip_id fewer than two rows"
    ∷ "E02 stop_times.txt:0 - not UTF-8"
    ∷ "errors 1 warnings 1"
    ∷ [])
unfolding without_first_blanks digits days_from_civil day_count days_of_years days_of_months
    weekday_number
not-utf8 = refl

-- E03
column-missing : reported (record small_feed {
  routes = file ("route_id,route_short_name" ∷ "R1,10" ∷ []);
}) ≡ lines
    ("E03 routes.txt:1 route_type column missing"
    ∷ "errors 1 warnings 0"
    ∷ [])
unfolding without_first_blanks digits days_from_civil day_count days_of_years days_of_months
    weekday_number
column-missing = refl

-- E04
column-twice : reported (record small_feed {
  agency = file
      ("agency_name,agency_url,agency_timezone,agency_name"
      ∷ "Metro,http://m.example,UTC,Metro" ∷ []);
}) ≡ lines
    ("E04 agency.txt:1 agency_name column twice"
    ∷ "errors 1 warnings 0"
    ∷ [])
unfolding without_first_blanks digits days_from_civil day_count days_of_years days_of_months
    weekday_number
column-twice = refl

-- E05
file-empty : reported (record small_feed {
  agency = file ("agency_name,agency_url,agency_timezone" ∷ []);
}) ≡ lines
    ("E05 agency.txt:1 - file empty"
    ∷ "errors 1 warnings 0"
    ∷ [])
unfolding without_first_blanks digits days_from_civil day_count days_of_years days_of_months
    weekday_number
file-empty = refl

-- E06
value-empty : reported (record small_feed {
  stops = file
      ("stop_id,stop_name,stop_lat,stop_lon" ∷ "S1,Mill,52.5,13.4" ∷ "S2,Lake,52.6,13.5"
      ∷ ",Hill,52.7,13.6" ∷ []);
}) ≡ lines
    ("E06 stops.txt:4 stop_id value empty"
    ∷ "errors 1 warnings 0"
    ∷ [])
unfolding without_first_blanks digits days_from_civil day_count days_of_years days_of_months
    weekday_number
value-empty = refl

-- E07
value-unreadable : reported (record small_feed {
  stop_times = file
      ("trip_id,arrival_time,departure_time,stop_id,stop_sequence"
      ∷ "T1,08:00:00,08:00:00,S1,1" ∷ "T1,08:60:00,08:10:00,S2,2" ∷ []);
}) ≡ lines
    ("E07 stop_times.txt:3 arrival_time value unreadable"
    ∷ "errors 1 warnings 0"
    ∷ [])
unfolding without_first_blanks digits days_from_civil day_count days_of_years days_of_months
    weekday_number
value-unreadable = refl

-- E08
value-out-of-range : reported (record small_feed {
  stop_times = file
      ("trip_id,arrival_time,departure_time,stop_id,stop_sequence"
      ∷ "T1,08:00:00,08:00:00,S1,1" ∷ "T1,08:10:00,08:10:00,S2,2147483648" ∷ []);
}) ≡ lines
    ("E08 stop_times.txt:3 stop_sequence value out of range"
    ∷ "errors 1 warnings 0"
    ∷ [])
unfolding without_first_blanks digits days_from_civil day_count days_of_years days_of_months
    weekday_number
value-out-of-range = refl

-- E09: keys compare the values read
key-twice : reported (record small_feed {
  stop_times = file
      ("trip_id,arrival_time,departure_time,stop_id,stop_sequence"
      ∷ "T1,08:00:00,08:00:00,S1,1" ∷ "T1,08:10:00,08:10:00,S2,01" ∷ []);
}) ≡ lines
    ("E09 stop_times.txt:3 stop_sequence key twice"
    ∷ "errors 1 warnings 0"
    ∷ [])
unfolding without_first_blanks digits days_from_civil day_count days_of_years days_of_months
    weekday_number
key-twice = refl

-- E10
unknown-reference : reported (record small_feed {
  trips = file ("route_id,service_id,trip_id" ∷ "R9,C1,T1" ∷ []);
}) ≡ lines
    ("E10 trips.txt:2 route_id unknown reference"
    ∷ "errors 1 warnings 0"
    ∷ [])
unfolding without_first_blanks digits days_from_civil day_count days_of_years days_of_months
    weekday_number
unknown-reference = refl

-- E11
wrong-kind-of-stop : reported (record small_feed {
  stops = file
      ("stop_id,stop_name,stop_lat,stop_lon,location_type" ∷ "S1,Mill,52.5,13.4,0"
      ∷ "S2,Lake,52.6,13.5,1" ∷ "S3,Hill,52.7,13.6," ∷ []);
}) ≡ lines
    ("E11 stop_times.txt:3 stop_id wrong kind of stop"
    ∷ "errors 1 warnings 0"
    ∷ [])
unfolding without_first_blanks digits days_from_civil day_count days_of_years days_of_months
    weekday_number
wrong-kind-of-stop = refl

-- E12
value-missing : reported (record small_feed {
  routes = file ("route_id,route_short_name,route_type" ∷ "R1,,3" ∷ []);
}) ≡ lines
    ("E12 routes.txt:2 route_short_name value missing or forbidden"
    ∷ "errors 1 warnings 0"
    ∷ [])
unfolding without_first_blanks digits days_from_civil day_count days_of_years days_of_months
    weekday_number
value-missing = refl

-- E13
zones-differ : reported (record small_feed {
  agency = file
      ("agency_id,agency_name,agency_url,agency_timezone" ∷ "A1,Metro,http://m.example,UTC"
      ∷ "A2,City,http://c.example,Europe/Berlin" ∷ []);
  routes = file ("route_id,agency_id,route_short_name,route_type" ∷ "R1,A1,10,3" ∷ []);
}) ≡ lines
    ("E13 agency.txt:3 agency_timezone zones differ"
    ∷ "errors 1 warnings 0"
    ∷ [])
unfolding without_first_blanks digits days_from_civil day_count days_of_years days_of_months
    weekday_number
zones-differ = refl

-- E14
end-before-start : reported (record small_feed {
  calendar = file (calendar_header ∷ "C1,1,1,1,1,1,1,1,20240401,20240331" ∷ []);
}) ≡ lines
    ("E14 calendar.txt:2 end_date end before start"
    ∷ "errors 1 warnings 0"
    ∷ [])
unfolding without_first_blanks digits days_from_civil day_count days_of_years days_of_months
    weekday_number
end-before-start = refl

-- E15
first-row-untimed : reported (record small_feed {
  stop_times = file
      ("trip_id,arrival_time,departure_time,stop_id,stop_sequence" ∷ "T1,,,S1,1"
      ∷ "T1,08:10:00,08:10:00,S2,2" ∷ []);
}) ≡ lines
    ("E15 stop_times.txt:2 arrival_time first or last row untimed"
    ∷ "errors 1 warnings 0"
    ∷ [])
unfolding without_first_blanks digits days_from_civil day_count days_of_years days_of_months
    weekday_number
first-row-untimed = refl

-- E16
departure-before-arrival : reported (record small_feed {
  stop_times = file
      ("trip_id,arrival_time,departure_time,stop_id,stop_sequence"
      ∷ "T1,08:00:00,07:59:59,S1,1" ∷ "T1,08:10:00,08:10:00,S2,2" ∷ []);
}) ≡ lines
    ("E16 stop_times.txt:2 departure_time departure before arrival"
    ∷ "errors 1 warnings 0"
    ∷ [])
unfolding without_first_blanks digits days_from_civil day_count days_of_years days_of_months
    weekday_number
departure-before-arrival = refl

-- E17
time-goes-back : reported (record small_feed {
  stop_times = file
      ("trip_id,arrival_time,departure_time,stop_id,stop_sequence"
      ∷ "T1,08:00:00,08:05:00,S1,1" ∷ "T1,08:04:59,08:10:00,S2,2" ∷ []);
}) ≡ lines
    ("E17 stop_times.txt:3 arrival_time time goes back"
    ∷ "errors 1 warnings 0"
    ∷ [])
unfolding without_first_blanks digits days_from_civil day_count days_of_years days_of_months
    weekday_number
time-goes-back = refl

-- E18
period-empty : reported (record small_feed {
  frequencies = file
      ("trip_id,start_time,end_time,headway_secs" ∷ "T1,06:00:00,06:00:00,60" ∷ []);
}) ≡ lines
    ("E18 frequencies.txt:2 end_time period empty"
    ∷ "errors 1 warnings 0"
    ∷ [])
unfolding without_first_blanks digits days_from_civil day_count days_of_years days_of_months
    weekday_number
period-empty = refl

-- E19
periods-overlap : reported (record small_feed {
  frequencies = file
      ("trip_id,start_time,end_time,headway_secs" ∷ "T1,06:00:00,07:00:00,60"
      ∷ "T1,06:59:59,08:00:00,60" ∷ []);
}) ≡ lines
    ("E19 frequencies.txt:3 start_time periods overlap"
    ∷ "errors 1 warnings 0"
    ∷ [])
unfolding without_first_blanks digits days_from_civil day_count days_of_years days_of_months
    weekday_number
periods-overlap = refl

-- E20
control-in-id : reported (record small_feed {
  stops = file
      ("stop_id,stop_name,stop_lat,stop_lon" ∷ "S1,Mill,52.5,13.4" ∷ "S2,Lake,52.6,13.5"
      ∷ "S\t3,Hill,52.7,13.6" ∷ []);
}) ≡ lines
    ("E20 stops.txt:4 stop_id control character in id"
    ∷ "errors 1 warnings 0"
    ∷ [])
unfolding without_first_blanks digits days_from_civil day_count days_of_years days_of_months
    weekday_number
control-in-id = refl

-- W01
short-row : reported (record small_feed {
  routes = file ("route_id,route_short_name,route_type,route_desc" ∷ "R1,10,3" ∷ []);
}) ≡ lines
    ("W01 routes.txt:2 - short row"
    ∷ "errors 0 warnings 1"
    ∷ [])
unfolding without_first_blanks digits days_from_civil day_count days_of_years days_of_months
    weekday_number
short-row = refl

-- W02
long-row : reported (record small_feed {
  routes = file ("route_id,route_short_name,route_type" ∷ "R1,10,3,x" ∷ []);
}) ≡ lines
    ("W02 routes.txt:2 - long row"
    ∷ "errors 0 warnings 1"
    ∷ [])
unfolding without_first_blanks digits days_from_civil day_count days_of_years days_of_months
    weekday_number
long-row = refl

-- W03
file-not-kept : reported (record small_feed { others = codes "fare_rules.txt" ∷ [] }) ≡ lines
    ("W03 fare_rules.txt:0 - file not kept"
    ∷ "errors 0 warnings 1"
    ∷ [])
unfolding without_first_blanks digits days_from_civil day_count days_of_years days_of_months
    weekday_number
file-not-kept = refl

-- W04
column-not-kept : reported (record small_feed {
  routes = file ("route_id,route_short_name,route_type,network_id" ∷ "R1,10,3,N1" ∷ []);
}) ≡ lines
    ("W04 routes.txt:1 network_id column not kept"
    ∷ "errors 0 warnings 1"
    ∷ [])
unfolding without_first_blanks digits days_from_civil day_count days_of_years days_of_months
    weekday_number
column-not-kept = refl

-- W05
control-in-text : reported (record small_feed {
  stops = file
      ("stop_id,stop_name,stop_lat,stop_lon" ∷ "S1,Mill,52.5,13.4" ∷ "S2,Lake,52.6,13.5"
      ∷ "S3,Hi\tll,52.7,13.6" ∷ []);
}) ≡ lines
    ("W05 stops.txt:4 stop_name control character in text"
    ∷ "errors 0 warnings 1"
    ∷ [])
unfolding without_first_blanks digits days_from_civil day_count days_of_years days_of_months
    weekday_number
control-in-text = refl

-- W06
fewer-than-two-rows : reported (record small_feed {
  trips = file ("route_id,service_id,trip_id" ∷ "R1,C1,T1" ∷ "R1,C1,T2" ∷ []);
  stop_times = file
      ("trip_id,arrival_time,departure_time,stop_id,stop_sequence"
      ∷ "T1,08:00:00,08:00:00,S1,1" ∷ "T1,08:10:00,08:10:00,S2,2"
      ∷ "T2,09:00:00,09:00:00,S1,1" ∷ []);
}) ≡ lines
    ("W06 trips.txt:3 trip_id fewer than two rows"
    ∷ "errors 0 warnings 1"
    ∷ [])
unfolding without_first_blanks digits days_from_civil day_count days_of_years days_of_months
    weekday_number
fewer-than-two-rows = refl

-- W07
service-never-active : reported (record small_feed {
  calendar = file (calendar_header ∷ "C1,0,0,0,0,0,0,0,20240401,20240401" ∷ []);
}) ≡ lines
    ("W07 calendar.txt:2 service_id service never active"
    ∷ "errors 0 warnings 1"
    ∷ [])
unfolding without_first_blanks digits days_from_civil day_count days_of_years days_of_months
    weekday_number
service-never-active = refl

-- W08
one-time-of-two : reported (record small_feed {
  stop_times = file
      ("trip_id,arrival_time,departure_time,stop_id,stop_sequence"
      ∷ "T1,08:00:00,08:00:00,S1,1" ∷ "T1,08:10:00,,S2,2" ∷ []);
}) ≡ lines
    ("W08 stop_times.txt:3 departure_time one time of two"
    ∷ "errors 0 warnings 1"
    ∷ [])
unfolding without_first_blanks digits days_from_civil day_count days_of_years days_of_months
    weekday_number
one-time-of-two = refl

-- Cases at the edge of a rule, each by its whole report.
use Rattle.std.proofs.Common.{◌≡◌, ◌∷◌, [], codes, refl}
use Rattle.std.specs.Fmt.{digits}
use Rattle.jiff_core.specs.Calendar.{days_from_civil, day_count, days_of_years, days_of_months, weekday_number}
use Rattle.gtfs_table.specs.Blanks.{without_first_blanks}
use Rattle.gtfs_table.specs.Tables.{not_utf8}
use Rattle.gtfs_rules_tests.proofs.WorkedFeeds.{file, small_feed, calendar_header, reported, lines}

-- a record of blanks is no row, and counts in row numbers
blank-record : reported (record small_feed {
  stops = file
      ("stop_id,stop_name,stop_lat,stop_lon" ∷ "S1,Mill,52.5,13.4" ∷ " , ,,"
      ∷ "S2,Lake,52.6,13.5" ∷ ",Hill,52.7,13.6" ∷ []);
}) ≡ lines
    ("E06 stops.txt:5 stop_id value empty"
    ∷ "errors 1 warnings 0"
    ∷ [])
unfolding without_first_blanks digits days_from_civil day_count days_of_years days_of_months
    weekday_number
blank-record = refl

-- the first record is the header, also where its names are empty
header-of-blanks : reported (record small_feed { frequencies = file (" ," ∷ []) }) ≡ lines
    ("E03 frequencies.txt:1 end_time column missing"
    ∷ "E03 frequencies.txt:1 headway_secs column missing"
    ∷ "E03 frequencies.txt:1 start_time column missing"
    ∷ "E03 frequencies.txt:1 trip_id column missing"
    ∷ "errors 4 warnings 0"
    ∷ [])
unfolding without_first_blanks digits days_from_civil day_count days_of_years days_of_months
    weekday_number
header-of-blanks = refl

-- four of the required files may be headers alone
headers-alone : reported (record small_feed {
  stops = file ("stop_id,stop_name,stop_lat,stop_lon" ∷ []);
  routes = file ("route_id,route_short_name,route_type" ∷ []);
  trips = file ("route_id,service_id,trip_id" ∷ []);
  stop_times = file ("trip_id,arrival_time,departure_time,stop_id,stop_sequence" ∷ []);
}) ≡ lines
    ("errors 0 warnings 0"
    ∷ [])
unfolding without_first_blanks digits days_from_civil day_count days_of_years days_of_months
    weekday_number
headers-alone = refl

-- a calendar.txt that is not UTF-8 is not missing, and has no rows
broken-calendar : reported (record small_feed {
  calendar = not_utf8;
}) ≡ lines
    ("E10 trips.txt:2 service_id unknown reference"
    ∷ "E02 calendar.txt:0 - not UTF-8"
    ∷ "errors 2 warnings 0"
    ∷ [])
unfolding without_first_blanks digits days_from_civil day_count days_of_years days_of_months
    weekday_number
broken-calendar = refl

-- a calendar.txt without a record counts as absent, and calendar_dates.txt may stand alone
empty-calendar : reported (record small_feed {
  calendar = file [];
  calendar_dates = file ("service_id,date,exception_type" ∷ "C1,20240401,1" ∷ []);
}) ≡ lines
    ("errors 0 warnings 0"
    ∷ [])
unfolding without_first_blanks digits days_from_civil day_count days_of_years days_of_months
    weekday_number
empty-calendar = refl

-- a headway of 0 is out of range
zero-headway : reported (record small_feed {
  frequencies = file
      ("trip_id,start_time,end_time,headway_secs" ∷ "T1,06:00:00,07:00:00,0" ∷ []);
}) ≡ lines
    ("E08 frequencies.txt:2 headway_secs value out of range"
    ∷ "errors 1 warnings 0"
    ∷ [])
unfolding without_first_blanks digits days_from_civil day_count days_of_years days_of_months
    weekday_number
zero-headway = refl

-- parts of a transfer's key may be empty, and the key is reported at from_stop_id also without that column
transfer-twice : reported (record small_feed {
  transfers = file ("to_stop_id,transfer_type" ∷ "S2,3" ∷ "S2,0" ∷ []);
}) ≡ lines
    ("E12 transfers.txt:2 from_stop_id value missing or forbidden"
    ∷ "E09 transfers.txt:3 from_stop_id key twice"
    ∷ "errors 2 warnings 0"
    ∷ [])
unfolding without_first_blanks digits days_from_civil day_count days_of_years days_of_months
    weekday_number
transfer-twice = refl

-- a station with a parent, an entrance without one, a boarding area in a station
parents : reported (record small_feed {
  stops = file
      ("stop_id,stop_name,stop_lat,stop_lon,location_type,parent_station"
      ∷ "S1,Mill,52.5,13.4,," ∷ "S2,Lake,52.6,13.5,," ∷ "S3,Hill,52.7,13.6,1,"
      ∷ "S4,Moor,52.7,13.6,1,S3" ∷ "S5,Gate,52.7,13.6,2," ∷ "S6,,,,4,S3" ∷ []);
}) ≡ lines
    ("E12 stops.txt:5 parent_station value missing or forbidden"
    ∷ "E12 stops.txt:6 parent_station value missing or forbidden"
    ∷ "E11 stops.txt:7 parent_station wrong kind of stop"
    ∷ "errors 3 warnings 0"
    ∷ [])
unfolding without_first_blanks digits days_from_civil day_count days_of_years days_of_months
    weekday_number
parents = refl

-- a control character in a station's parent is E20 alone
parent-unreadable : reported (record small_feed {
  stops = file
      ("stop_id,stop_name,stop_lat,stop_lon,location_type,parent_station"
      ∷ "S1,Mill,52.5,13.4,," ∷ "S2,Lake,52.6,13.5,," ∷ "S3,Hill,52.7,13.6,1,S\t1" ∷ []);
}) ≡ lines
    ("E20 stops.txt:4 parent_station control character in id"
    ∷ "errors 1 warnings 0"
    ∷ [])
unfolding without_first_blanks digits days_from_civil day_count days_of_years days_of_months
    weekday_number
parent-unreadable = refl

-- a stop named by an id whose first row has an unreadable type is of no wrong kind
parent-of-unreadable-type : reported (record small_feed {
  stops = file
      ("stop_id,stop_name,stop_lat,stop_lon,location_type,parent_station"
      ∷ "S1,Mill,52.5,13.4,," ∷ "S2,Lake,52.6,13.5,," ∷ "S3,Hill,52.7,13.6,x,"
      ∷ "S3,Hill,52.7,13.6,1," ∷ "S4,Gate,52.7,13.6,0,S3" ∷ []);
}) ≡ lines
    ("E07 stops.txt:4 location_type value unreadable"
    ∷ "E09 stops.txt:5 stop_id key twice"
    ∷ "errors 2 warnings 0"
    ∷ [])
unfolding without_first_blanks digits days_from_civil day_count days_of_years days_of_months
    weekday_number
parent-of-unreadable-type = refl

-- an unreadable latitude silences no rule on the name beside it
neighbour-unreadable : reported (record small_feed {
  stops = file
      ("stop_id,stop_name,stop_lat,stop_lon" ∷ "S1,Mill,52.5,13.4" ∷ "S2,Lake,52.6,13.5"
      ∷ "S3,,x,13.6" ∷ []);
}) ≡ lines
    ("E07 stops.txt:4 stop_lat value unreadable"
    ∷ "E12 stops.txt:4 stop_name value missing or forbidden"
    ∷ "errors 2 warnings 0"
    ∷ [])
unfolding without_first_blanks digits days_from_civil day_count days_of_years days_of_months
    weekday_number
neighbour-unreadable = refl

-- zones are compared with the first that is readable
first-zone : reported (record small_feed {
  agency = file
      ("agency_id,agency_name,agency_url,agency_timezone" ∷ "A1,Metro,http://m.example,"
      ∷ "A2,City,http://c.example,UTC" ∷ "A3,Town,http://t.example,Europe/Berlin" ∷ []);
  routes = file ("route_id,agency_id,route_short_name,route_type" ∷ "R1,A1,10,3" ∷ []);
}) ≡ lines
    ("E06 agency.txt:2 agency_timezone value empty"
    ∷ "E13 agency.txt:4 agency_timezone zones differ"
    ∷ "errors 2 warnings 0"
    ∷ [])
unfolding without_first_blanks digits days_from_civil day_count days_of_years days_of_months
    weekday_number
first-zone = refl

-- times are compared by sequence, and not in the order of the file
rows-by-sequence : reported (record small_feed {
  stop_times = file
      ("trip_id,arrival_time,departure_time,stop_id,stop_sequence"
      ∷ "T1,08:10:00,08:10:00,S2,2" ∷ "T1,08:00:00,08:00:00,S1,1" ∷ []);
}) ≡ lines
    ("errors 0 warnings 0"
    ∷ [])
unfolding without_first_blanks digits days_from_civil day_count days_of_years days_of_months
    weekday_number
rows-by-sequence = refl

-- times are compared over rows without a time
over-an-untimed-row : reported (record small_feed {
  stop_times = file
      ("trip_id,arrival_time,departure_time,stop_id,stop_sequence"
      ∷ "T1,08:00:00,08:05:00,S1,1" ∷ "T1,,,S3,2" ∷ "T1,08:04:59,08:10:00,S2,3" ∷ []);
}) ≡ lines
    ("E17 stop_times.txt:4 arrival_time time goes back"
    ∷ "errors 1 warnings 0"
    ∷ [])
unfolding without_first_blanks digits days_from_civil day_count days_of_years days_of_months
    weekday_number
over-an-untimed-row = refl

-- a row with an unreadable time is passed over
over-an-unclear-row : reported (record small_feed {
  stop_times = file
      ("trip_id,arrival_time,departure_time,stop_id,stop_sequence"
      ∷ "T1,08:00:00,08:00:00,S1,1" ∷ "T1,07:00:00,x,S3,2" ∷ "T1,08:10:00,08:10:00,S2,3" ∷ []);
}) ≡ lines
    ("E07 stop_times.txt:3 departure_time value unreadable"
    ∷ "errors 1 warnings 0"
    ∷ [])
unfolding without_first_blanks digits days_from_civil day_count days_of_years days_of_months
    weekday_number
over-an-unclear-row = refl

-- of two rows with the greatest sequence the first is judged
equal-sequences : reported (record small_feed {
  stop_times = file
      ("trip_id,arrival_time,departure_time,stop_id,stop_sequence"
      ∷ "T1,08:00:00,08:00:00,S1,1" ∷ "T1,,,S2,2" ∷ "T1,08:10:00,08:10:00,S3,2" ∷ []);
}) ≡ lines
    ("E15 stop_times.txt:3 arrival_time first or last row untimed"
    ∷ "E09 stop_times.txt:4 stop_sequence key twice"
    ∷ "errors 2 warnings 0"
    ∷ [])
unfolding without_first_blanks digits days_from_civil day_count days_of_years days_of_months
    weekday_number
equal-sequences = refl

-- periods that touch share no second
touching-periods : reported (record small_feed {
  frequencies = file
      ("trip_id,start_time,end_time,headway_secs" ∷ "T1,06:00:00,07:00:00,60"
      ∷ "T1,07:00:00,08:00:00,60" ∷ []);
}) ≡ lines
    ("errors 0 warnings 0"
    ∷ [])
unfolding without_first_blanks digits days_from_civil day_count days_of_years days_of_months
    weekday_number
touching-periods = refl

-- a service of removed days, and one whose only day is removed
removed-alone : reported (record small_feed {
  calendar_dates = file
      ("service_id,date,exception_type" ∷ "C2,20240406,2" ∷ "C1,20240401,2" ∷ []);
}) ≡ lines
    ("W07 calendar.txt:2 service_id service never active"
    ∷ "W07 calendar_dates.txt:2 service_id service never active"
    ∷ "errors 0 warnings 2"
    ∷ [])
unfolding without_first_blanks digits days_from_civil day_count days_of_years days_of_months
    weekday_number
removed-alone = refl

-- a service that runs on an added day alone
added-alone : reported (record small_feed {
  calendar = file (calendar_header ∷ "C1,0,0,0,0,0,0,0,20240401,20240401" ∷ []);
  calendar_dates = file ("service_id,date,exception_type" ∷ "C1,20240501,1" ∷ []);
}) ≡ lines
    ("errors 0 warnings 0"
    ∷ [])
unfolding without_first_blanks digits days_from_civil day_count days_of_years days_of_months
    weekday_number
added-alone = refl

-- no service runs in the year 9999
days-of-9999 : reported (record small_feed {
  calendar = file (calendar_header ∷ "C1,1,1,1,1,1,1,1,99990101,99990102" ∷ []);
}) ≡ lines
    ("W07 calendar.txt:2 service_id service never active"
    ∷ "errors 0 warnings 1"
    ∷ [])
unfolding without_first_blanks digits days_from_civil day_count days_of_years days_of_months
    weekday_number
days-of-9999 = refl

-- a service with an unreadable value is not judged
unsure-service : reported (record small_feed {
  calendar = file (calendar_header ∷ "C1,0,0,0,0,0,0,0,20240401,20240401" ∷ []);
  calendar_dates = file ("service_id,date,exception_type" ∷ "C1,20240501," ∷ []);
}) ≡ lines
    ("E06 calendar_dates.txt:2 exception_type value empty"
    ∷ "errors 1 warnings 0"
    ∷ [])
unfolding without_first_blanks digits days_from_civil day_count days_of_years days_of_months
    weekday_number
unsure-service = refl

-- control characters of names are printed as spaces
odd-name : reported (record small_feed { others = codes "fare\trules.txt" ∷ [] }) ≡ lines
    ("W03 fare rules.txt:0 - file not kept"
    ∷ "errors 0 warnings 1"
    ∷ [])
unfolding without_first_blanks digits days_from_civil day_count days_of_years days_of_months
    weekday_number
odd-name = refl

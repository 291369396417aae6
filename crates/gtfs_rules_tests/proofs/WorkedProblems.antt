-- Reports of whole feeds.
use Rattle.std.proofs.Common.{◌≡◌, ◌∷◌, [], codes, refl, ℕ, List, ◌++◌}
use Rattle.std.specs.Fmt.{digits}
use Rattle.csv.specs.Machine.{next_record}
use Rattle.csv.specs.Reading.{records_from, strip_bom}
use Rattle.jiff_core.specs.Calendar.{days_from_civil, day_count, days_of_years, days_of_months, weekday_number}
use Rattle.gtfs_table.specs.Blanks.{without_first_blanks}
use Rattle.gtfs_table.specs.Tables.{Table, empty_dataset, records_of, table_records, without_marks}
use Rattle.gtfs_rules_tests.proofs.WorkedFeeds.{file, small_feed, calendar_header, reported, lines}

-- nothing is wrong with the small feed
the-small-feed : reported small_feed ≡ lines
    ("errors 0 warnings 0"
    ∷ [])
unfolding without_first_blanks digits days_from_civil day_count days_of_years days_of_months
    weekday_number
the-small-feed = refl

-- a folder without a file
no-files : reported empty_dataset ≡ lines
    ("E01 agency.txt:0 - file missing"
    ∷ "E01 stops.txt:0 - file missing"
    ∷ "E01 routes.txt:0 - file missing"
    ∷ "E01 trips.txt:0 - file missing"
    ∷ "E01 stop_times.txt:0 - file missing"
    ∷ "E01 calendar.txt:0 - file missing"
    ∷ "errors 6 warnings 0"
    ∷ [])
unfolding without_first_blanks digits days_from_civil day_count days_of_years days_of_months
    weekday_number
no-files = refl

-- a stop_times.txt with a byte order mark, CRLF, blanks, minutes of 60, a stop that is a station, short rows and an open quote
worn : List ℕ
worn =
    0xEF ∷ 0xBB ∷ 0xBF ∷ codes "trip_id,arrival_time,departure_time,stop_id,stop_sequence\r\nT1, 08:00:00 ,08:00:00,S1,1\r\n"
    ++ codes "T1,24:60:00,24:10:00,S2,2\r\nT1,25:00:00,25:00:00,S3,3\r\nT1,26:00:00,26:00:00,S1\r\nT1,\"27:00:00"

abbrev worn_lines : Table
worn_lines = file ("trip_id,arrival_time,departure_time,stop_id,stop_sequence" ∷ "T1, 08:00:00 ,08:00:00,S1,1" ∷ "T1,24:60:00,24:10:00,S2,2"
    ∷ "T1,25:00:00,25:00:00,S3,3" ∷ "T1,26:00:00,26:00:00,S1" ∷ "T1,27:00:00" ∷ [])

worn-records : records_of worn ≡ table_records worn_lines
unfolding worn without_marks records_from strip_bom next_record
worn-records = refl

worn-stop-times : reported (record small_feed {
  stops = file
      ("stop_id,stop_name,stop_lat,stop_lon,location_type" ∷ "S1,Mill,52.5,13.4,"
      ∷ "S2,Lake,52.6,13.5," ∷ "S3,Hill,52.7,13.6,1" ∷ []);
  stop_times = worn_lines;
}) ≡ lines
    ("E07 stop_times.txt:3 arrival_time value unreadable"
    ∷ "E11 stop_times.txt:4 stop_id wrong kind of stop"
    ∷ "E06 stop_times.txt:5 stop_sequence value empty"
    ∷ "W01 stop_times.txt:5 - short row"
    ∷ "E06 stop_times.txt:6 stop_id value empty"
    ∷ "E06 stop_times.txt:6 stop_sequence value empty"
    ∷ "W01 stop_times.txt:6 - short row"
    ∷ "W08 stop_times.txt:6 departure_time one time of two"
    ∷ "errors 5 warnings 3"
    ∷ [])
unfolding without_first_blanks digits days_from_civil day_count days_of_years days_of_months
    weekday_number
worn-stop-times = refl

-- two agencies without ids, in two zones
two-agencies : reported (record small_feed {
  agency = file
      ("agency_name,agency_url,agency_timezone" ∷ "Metro,http://m.example,UTC"
      ∷ "City,http://c.example,Europe/Berlin" ∷ []);
}) ≡ lines
    ("E12 agency.txt:2 agency_id value missing or forbidden"
    ∷ "E12 agency.txt:3 agency_id value missing or forbidden"
    ∷ "E13 agency.txt:3 agency_timezone zones differ"
    ∷ "E12 routes.txt:2 agency_id value missing or forbidden"
    ∷ "errors 4 warnings 0"
    ∷ [])
unfolding without_first_blanks digits days_from_civil day_count days_of_years days_of_months
    weekday_number
two-agencies = refl

-- a service that runs on no weekday
no-weekday : reported (record small_feed {
  calendar = file (calendar_header ∷ "C1,0,0,0,0,0,0,0,20240401,20240401" ∷ []);
}) ≡ lines
    ("W07 calendar.txt:2 service_id service never active"
    ∷ "errors 0 warnings 1"
    ∷ [])
unfolding without_first_blanks digits days_from_civil day_count days_of_years days_of_months
    weekday_number
no-weekday = refl

-- a header with a column twice, an empty name and a column that is not kept
odd-header : reported (record small_feed {
  stops = file
      ("stop_id,stop_name,stop_lat,stop_lon,,stop_id, foo" ∷ "S1,Mill,52.5,13.4"
      ∷ "S2,Lake,52.6,13.5" ∷ "S3,Hill,52.7,13.6" ∷ []);
}) ≡ lines
    ("E04 stops.txt:1 stop_id column twice"
    ∷ "W04 stops.txt:1 foo column not kept"
    ∷ "W01 stops.txt:2 - short row"
    ∷ "W01 stops.txt:3 - short row"
    ∷ "W01 stops.txt:4 - short row"
    ∷ "errors 1 warnings 4"
    ∷ [])
unfolding without_first_blanks digits days_from_civil day_count days_of_years days_of_months
    weekday_number
odd-header = refl

-- an empty stop_times.txt
no-stop-times : reported (record small_feed { stop_times = file [] }) ≡ lines
    ("W06 trips.txt:2 trip_id fewer than two rows"
    ∷ "E05 stop_times.txt:0 - file empty"
    ∷ "errors 1 warnings 1"
    ∷ [])
unfolding without_first_blanks digits days_from_civil day_count days_of_years days_of_months
    weekday_number
no-stop-times = refl

-- two periods of frequencies that share half an hour
two-periods : reported (record small_feed {
  frequencies = file
      ("trip_id,start_time,end_time,headway_secs,exact_times" ∷ "T1,06:00:00,07:00:00,1800,0"
      ∷ "T1,06:30:00,08:00:00,1800,1" ∷ []);
}) ≡ lines
    ("E19 frequencies.txt:3 start_time periods overlap"
    ∷ "errors 1 warnings 0"
    ∷ [])
unfolding without_first_blanks digits days_from_civil day_count days_of_years days_of_months
    weekday_number
two-periods = refl

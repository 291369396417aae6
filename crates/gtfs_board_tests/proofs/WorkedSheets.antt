-- What the definitions of timetables say of small trips, and the texts of small sheets.
use Rattle.std.proofs.Common.{◌≡◌, [], ◌∷◌, codes, refl, ap, ℕ, List, Option, Some, None, true, false}
use Rattle.std.specs.Prelude.{◌++◌, pos}
use Rattle.std.specs.Fmt.{digits}
use Rattle.gtfs_rows.specs.Rows.{StopRow, Trip}
use Rattle.gtfs_board.specs.Timetable.{has_heading, sheet_heading, sheet_text, time_of_run, time_shown, wants}
use Rattle.gtfs_board.proofs.TextVectors.{date}

abbrev row : List ℕ → Option ℕ → ℕ → StopRow
row stop time sequence = record {
  arrival_time = time;
  departure_time = time;
  stop_id = stop;
  stop_sequence = sequence;
  stop_headsign = None;
  pickup_type = 0;
  drop_off_type = 0;
  timepoint = None;
}

-- from S1 at eight, past S3, to S2 at ten past
abbrev trip : Option ℕ → Trip
trip direction = record {
  route_id = codes "R1";
  service_id = codes "C1";
  trip_id = codes "T1";
  trip_headsign = None;
  trip_short_name = None;
  direction_id = direction;
  wheelchair_accessible = 0;
  bikes_allowed = 0;
  stop_rows = row (codes "S1") (Some 28800) 1 ∷ row (codes "S3") None 2 ∷ row (codes "S2") (Some 29400) 3 ∷ [];
  frequencies = [];
}

-- ---- directions: a trip that has none is wanted where none is given, and stands under a heading of its own

any-none : wants None (trip None) ≡ true
any-none = refl

any-one : wants None (trip (Some 1)) ≡ true
any-one = refl

zero-none : wants (Some 0) (trip None) ≡ false
zero-none = refl

zero-zero : wants (Some 0) (trip (Some 0)) ≡ true
zero-zero = refl

zero-one : wants (Some 0) (trip (Some 1)) ≡ false
zero-one = refl

none-apart : has_heading (sheet_heading (trip None)) (trip (Some 0)) ≡ false
none-apart = refl

none-own : has_heading (sheet_heading (trip None)) (trip None) ≡ true
none-own = refl

-- ---- times: those of a run that starts at six

first : time_of_run (trip None ∷ []) 0 (21600, codes "T1") ≡ Some 21600
first = refl

untimed : time_of_run (trip None ∷ []) 1 (21600, codes "T1") ≡ None
untimed = refl

last : time_of_run (trip None ∷ []) 2 (21600, codes "T1") ≡ Some 22200
last = refl

latest : time_shown (Some 7199997) ≡ codes "1999:59:57"
unfolding digits
latest = refl

-- ---- texts

one-run : sheet_text (record {
  route = codes "R1";
  direction = None;
  day = pos 19814;
  stops = codes "S1" ∷ codes "S2" ∷ [];
  runs = (28800, codes "T1") ∷ [];
  times = (Some 28800 ∷ []) ∷ (Some 29400 ∷ []) ∷ [];
}) ≡ codes "== R1 - 20240401\ntrip\tT1\nS1\t08:00:00\nS2\t08:10:00\n"
one-run = ap (λ t. codes "== R1 - " ++ t ++ codes "\ntrip\tT1\nS1\t08:00:00\nS2\t08:10:00\n") date

two-runs : sheet_text (record {
  route = codes "R1";
  direction = Some 1;
  day = pos 19814;
  stops = codes "S1" ∷ codes "S2" ∷ [];
  runs = (21600, codes "T1") ∷ (23400, codes "T1") ∷ [];
  times = (Some 21600 ∷ Some 23400 ∷ []) ∷ (Some 22200 ∷ None ∷ []) ∷ [];
}) ≡ codes "== R1 1 20240401\ntrip\tT1\tT1\nS1\t06:00:00\t06:30:00\nS2\t06:10:00\t-\n"
unfolding digits
two-runs = ap (λ t. codes "== R1 1 " ++ t ++ codes "\ntrip\tT1\tT1\nS1\t06:00:00\t06:30:00\nS2\t06:10:00\t-\n") date

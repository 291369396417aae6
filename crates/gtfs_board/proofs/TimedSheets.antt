-- The timetable of a feed under a choice of times: its patterns and columns are those of the rows as they are given.
use Rattle.std.proofs.Common.{◌≡◌, ◌∙◌, ◌+◌, ◌<◌, ℕ, zero, suc, ℤ, Bool, true, false, List, [], ◌∷◌, map, length, get_or, Option, Some, None, refl, sym, ap, subst, unwrap_or, is_some, arith}
use Rattle.std.specs.Prelude.{◌==◌, ◌&&◌, not, if◌then◌else◌, option_and_then}
use Rattle.std.specs.List.{All, enumerate_from, filter, flat_map, list_any, range_with_len, slice_get}
use Rattle.std.specs.List.Sorted.{IsPermutation}
use Rattle.std.proofs.lemmas.List.{get_or-map, length-map}
use Rattle.std.proofs.lemmas.List.FromFn.{get_or-map-range_with_len, length-map-range_with_len}
use Rattle.std.proofs.lemmas.Option.{slice_get_within}
use Rattle.std.proofs.lemmas.Simd.{map-map}
use Rattle.gtfs_schema.specs.FieldValues.{if_there}
use Rattle.gtfs_field.proofs.ListFacts.{some_of}
use Rattle.gtfs_table.proofs.PartFacts.{length-parts}
use Rattle.gtfs_rows.specs.Content.{Content}
use Rattle.gtfs_rows.specs.Departures.{runs_on}
use Rattle.gtfs_rows.specs.NamedRows.{stop_row_named}
use Rattle.gtfs_rows.specs.Rows.{StopRow, Trip}
use Rattle.gtfs_rows.specs.Runs.{first_leaves, is_run, is_timed, starts_run, trip_start}
use Rattle.gtfs_rows.specs.SoundContent.{leaves}
use Rattle.gtfs_rows.specs.Trips.{stop_rows_by_trip}
use Rattle.gtfs_stop_times.specs.RowTimes.{left_at}
use Rattle.gtfs_rows.specs.RowsInMemory.{IsSoundParts, content_of_parts, route_ids, text_of_number, trip_of}
use Rattle.gtfs_rows.specs.declared.frequency.Frequency.{Frequency}
use Rattle.gtfs_rows.specs.declared.numbers.TripNo.{TripNo}
use Rattle.gtfs_rows.specs.declared.parts.Parts.{Parts}
use Rattle.gtfs_stop_times.specs.declared.stop_row.StopRow.{StopRow as StopTime}
use Rattle.gtfs_rows.specs.declared.trip.Trip.{Trip as TripRow}
use Rattle.gtfs_runs.specs.Tallies.{tally}
use Rattle.gtfs_runs.specs.Patterns.{ArePatterns, direction_of_trip, entries_of, entries_under, entry_of, is_of_route, rows_of_number}
use Rattle.gtfs_runs.specs.declared.pattern.Pattern.{Pattern}
use Rattle.gtfs_times.specs.Filling.{filled_rows, time_at, timed, timed_stop_rows, timed_trip}
use Rattle.gtfs_times.specs.TimedRows.{filled_stop_time, timed_parts, timed_stop_times}
use Rattle.gtfs_times.specs.declared.times.Times.{Times}
use Rattle.gtfs_times.specs.declared.times.Times.TheVariants as times
use Rattle.gtfs_times.proofs.FilledContent.{sound-timed}
use Rattle.gtfs_times.proofs.FilledSound.{filled-length}
use Rattle.gtfs_times.proofs.TimedContent.{content-timed}
use Rattle.gtfs_board.specs.TimetableColumns.{IsPattern, column_times, goes, is_column_of, sheets_along, time_of_column, times_of_column}
use Rattle.gtfs_board.specs.Timetable.{Sheet, row_at, sheets}
use Rattle.gtfs_board.specs.Timetable as table
use Rattle.gtfs_board.specs.declared.sheet.columns.RunColumn.{RunColumn}
use Rattle.gtfs_board.proofs.LaneDays.{range-in}
use Rattle.gtfs_board.proofs.SheetColumns.{column-time}
use Rattle.gtfs_board.proofs.SheetLists.{map-agree}
use Rattle.gtfs_board.proofs.Sheets.{sheets-are}
use Rattle.gtfs_board.proofs.TimedRows.{as-many, rows-timed}

-- ---- runs

first-same : (b : Bool) (r : StopRow) (t : Option ℕ) → is_timed r ≡ b → t ≡ None → leaves (if b then r else record r { arrival_time = t; departure_time = t }) ≡ leaves r
first-same true r t is none = refl
first-same false r t is none = (λ i. leaves (record r { arrival_time = none i; departure_time = none i })) ∙ nothing (leaves r) is
  where
    nothing : (o : Option ℕ) → is_some o ≡ false → None ≡ o
    nothing None is = refl
    nothing (Some n) is = cc

-- no row comes before the first, so it stays as it is
first-filled : (rows : List StopRow) → first_leaves (filled_rows rows) ≡ first_leaves rows
first-filled [] = refl
first-filled (r ∷ rs) = first-same (is_timed r) r (time_at (r ∷ rs) 0) refl refl

start-same : (choice : Times) (t : Trip) → trip_start (timed_trip choice t) ≡ trip_start t
start-same times.Given t = refl
start-same times.Interpolated t = ap (λ o. unwrap_or o 0) (first-filled t.stop_rows)

long-same : (choice : Times) (rows : List StopRow) → length (timed_stop_rows choice rows) ≡ length rows
long-same times.Given rows = refl
long-same times.Interpolated rows = filled-length rows

-- the runs of a trip do not change
run-same : (choice : Times) (t : Trip) (r : ℕ) → is_run (timed_trip choice t) r ≡ is_run t r
run-same choice t r = λ i.
    not (long-same choice t.stop_rows i == 0) && (if length t.frequencies == 0 then r == start-same choice t i else list_any (λ f. starts_run f r) t.frequencies)

there-mapped : {X Y : Type 0} (g : X → Y) (xs : List X) (n : ℕ) (q : Y → Bool) → if_there (slice_get (map g xs) n) q ≡ if_there (slice_get xs n) (λ x. q (g x))
there-mapped g [] n q = refl
there-mapped g (x ∷ xs) zero q = refl
there-mapped g (x ∷ xs) (suc n) q = there-mapped g xs n q

abbrev is_run_in : Content → ℤ → RunColumn → Bool
is_run_in f d c = if_there (slice_get f.trips c.trip.0) (λ t. runs_on f t d && is_run t c.start)

run-in-timed : (choice : Times) (f : Content) (d : ℤ) (c : RunColumn) → is_run_in (timed choice f) d c ≡ is_run_in f d c
run-in-timed choice f d c =
    there-mapped (timed_trip choice) f.trips c.trip.0 (λ t. runs_on (timed choice f) t d && is_run t c.start)
    ∙ (λ i. if_there (slice_get f.trips c.trip.0) (λ t. runs_on f t d && run-same choice t c.start i))

-- ---- stops

stop-kept : (b : Bool) (r : StopTime) (t : Option ℕ) → (if b then r else record r { arrival_time = t; departure_time = t }).stop_id ≡ r.stop_id
stop-kept true r t = refl
stop-kept false r t = refl

stops-placed : (a : ℕ) (rows : List StopTime) → map (λ x. x.1.stop_id) (enumerate_from a rows) ≡ map (λ r. r.stop_id) rows
stops-placed a [] = refl
stops-placed a (r ∷ rs) = ap (λ ys. r.stop_id ∷ ys) (stops-placed (a + 1) rs)

stops-same : (choice : Times) (rows : List StopTime) → map (λ r. r.stop_id) (timed_stop_times choice rows) ≡ map (λ r. r.stop_id) rows
stops-same times.Given rows = refl
stops-same times.Interpolated rows =
    map-map (λ r. r.stop_id) (filled_stop_time rows) (enumerate_from 0 rows)
    ∙ (λ i. map (λ x. stop-kept (is_some (left_at x.1)) x.1 (time_at (map (stop_row_named [] []) rows) x.0) i) (enumerate_from 0 rows))
    ∙ stops-placed 0 rows

-- ---- a table turned round

module _ {L C : Type 0} (g : L → List (Option ℕ)) (h : C → List (Option ℕ)) (lines : List L) (cs : List C) (n : ℕ) (same : map g lines ≡ map h cs) (wide : (c : C) → length (h c) ≡ n) where
  -- the lines have the width of those that they are
  pub lines-wide : C → All (λ line. length (g line) ≡ n) lines
  lines-wide first k d within =
      let many : length lines ≡ length cs = sym (length-map lines g) ∙ ap length same ∙ length-map cs h in
      let inside : k < length cs = omega (arith, within, many) in
      ap length (sym (get_or-map g lines k d [] within)) ∙ ap (λ ls. length (get_or ls k [])) same ∙ ap length (get_or-map h cs k first [] inside) ∙ wide (get_or cs k first)

  -- and at a place what these have there
  pub across : (i : ℕ) → map (λ line. get_or (g line) i None) lines ≡ map (λ c. get_or (h c) i None) cs
  across i = sym (map-map (λ l. get_or l i None) g lines) ∙ ap (map (λ l. get_or l i None)) same ∙ map-map (λ l. get_or l i None) h cs

-- a place within each line is within one of them
pub line-within : {L : Type 0} (g : L → List (Option ℕ)) (lines : List L) (n place : ℕ) (line : L) → All (λ l. place < length (g l)) lines → n < length lines → line ≡ get_or lines n line
    → place < length (g line)
line-within g lines n place line each within is = subst (λ l. place < length (g l)) (sym is) (each n line within)

pub turned-times : {L : Type 0} (g : L → List (Option ℕ)) (lines : List L) (f : Content) (n : ℕ) (cs : List RunColumn) → map g lines ≡ map (times_of_column f n) cs
    → map (λ i. map (λ line. get_or (g line) i None) lines) (range_with_len 0 n) ≡ column_times f n cs
turned-times g lines f n cs same =
    map-agree (λ i. map (λ line. get_or (g line) i None) lines) (λ i. map (time_of_column f i) cs) (range_with_len 0 n)
    (λ i there.
    let inside : i < n = omega (arith, (range-in 0 n i there).1) in
    across g (times_of_column f n) lines cs n same (λ c. length-map-range_with_len (λ k. time_of_column f k c) 0 n) i
    ∙ map-agree (λ c. get_or (times_of_column f n c) i None) (time_of_column f i) cs
    (λ c member. get_or-map-range_with_len (λ k. time_of_column f k c) 0 n i i None inside (omega arith)))

pub times-wide : {L : Type 0} (g : L → List (Option ℕ)) (lines : List L) (f : Content) (n : ℕ) (cs : List RunColumn) → map g lines ≡ map (times_of_column f n) cs
    → All (λ line. length (g line) ≡ n) lines
times-wide g lines f n cs same =
    lines-wide g (times_of_column f n) lines cs n same (λ c. length-map-range_with_len (λ k. time_of_column f k c) 0 n) (record { start = 0; trip = record { 0 = 0 } })

-- ---- the times of a column

module _ (p : Parts) (sound : IsSoundParts p) where
  -- what the stop times of a trip say at each of so many positions is what the content says
  pub column-times : (c : RunColumn) (n : ℕ) (rs : List StopTime) (ts : List (Option ℕ)) → slice_get (stop_rows_by_trip p) c.trip.0 ≡ Some rs
      → ((row : TripRow) (fs : List Frequency) → ts ≡ map (λ i. option_and_then (table.time_passed (trip_of p row rs fs) c.start) (row_at (trip_of p row rs fs) i)) (range_with_len 0 n))
      → ts ≡ times_of_column (content_of_parts p) n c
  column-times c n rs ts at_rows is =
      let within : c.trip.0 < length p.trips = omega (arith, slice_get_within (stop_rows_by_trip p) c.trip.0 rs at_rows, length-parts p.stop_times.starts p.stop_times.rows, sound.stop_rows.0) in
      let row = (some_of p.trips c.trip.0 within) in
      is row [] ∙ (λ z. map (λ i. column-time p sound c i rs (option_and_then (table.time_passed (trip_of p row rs []) c.start) (row_at (trip_of p row rs []) i)) at_rows (λ r fs. refl) z) (range_with_len 0 n))

-- ---- the feed under the choice

module _ (choice : Times) (p : Parts) (sound : IsSoundParts p) where
  abbrev q : Parts
  q = timed_parts choice p

  column-same : (d : ℤ) (c : RunColumn) (n : TripNo) → is_column_of q d c n ≡ is_column_of p d c n
  column-same d c n = ap (λ b. (c.trip.0 == n.0) && b) (ap (λ f. is_run_in f d c) (content-timed choice p sound) ∙ run-in-timed choice (content_of_parts p) d c)

  pub columns-same : (d : ℤ) (c : RunColumn) (ns : List TripNo) → tally (is_column_of p d c) ns ≡ tally (is_column_of q d c) ns
  columns-same d c ns = λ i. tally (λ n. sym (column-same d c n) i) ns

  pub pattern-timed : (x : Pattern) → IsPattern p x → IsPattern q x
  pattern-timed x is = record {
    stops = is.stops;
    trips = λ k d within. let known = is.trips k d within in (known.0, omega (arith, known.1, as-many choice p sound (get_or x.trips k d).0));
    along = λ k d within.
        let n = (get_or x.trips k d).0 in
        ap (map (λ row. row.stop_id)) (rows-timed choice p sound n) ∙ stops-same choice (rows_of_number p n) ∙ is.along k d within;
    once = is.once;
  }

  entry-same : (n : ℕ) → entry_of q n ≡ entry_of p n
  entry-same n = λ i. record {
    heading = record { direction = direction_of_trip p n; stops = (ap (map (λ r. r.stop_id)) (rows-timed choice p sound n) ∙ stops-same choice (rows_of_number p n)) i };
    trip = record { 0 = n };
  }

  route-same : (route n : ℕ) → is_of_route q route n ≡ is_of_route p route n
  route-same route n = λ i. if_there (slice_get p.trips n) (λ t. t.route_id.0 == route) && not (as-many choice p sound n i == 0)

  entries-same : (route : ℕ) → entries_of q route ≡ entries_of p route
  entries-same route = λ i. map (λ n. entry-same n i) (filter (λ n. route-same route n i) (range_with_len 0 (length p.trips)))

  patterns-timed : (route : ℕ) (xs : List Pattern) → ArePatterns p route xs → ArePatterns q route xs
  patterns-timed route xs are = record {
    each_once = subst (λ es. IsPermutation es (flat_map entries_under xs)) (sym (entries-same route)) are.each_once;
    in_order = are.in_order;
    groups = are.groups;
  }

  -- the sheets along the patterns are the timetable
  pub sheets-timed : (route : ℕ) → route < length p.routes → (xs : List Pattern) → ArePatterns p route xs → (direction : Option ℕ) (day : ℤ) (found : List Sheet)
      → found ≡ flat_map (sheets_along q (text_of_number (route_ids p) route) day) (filter (goes direction) xs)
      → found ≡ sheets (timed choice (content_of_parts p)) (text_of_number (route_ids p) route) direction day
  sheets-timed route within xs are direction day found is =
      sheets-are q (sound-timed p sound choice) route within xs (patterns-timed route xs are) direction day found is
      ∙ ap (λ f. sheets f (text_of_number (route_ids p) route) direction day) (content-timed choice p sound)

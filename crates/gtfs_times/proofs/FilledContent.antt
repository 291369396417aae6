-- The rows of a sound feed under either choice of times make a sound feed.
use Rattle.std.proofs.Common.{◌≡◌, ◌∙◌, ◌+◌, ◌<◌, ◌≤◌, ◌++◌, ℕ, zero, suc, Bool, true, false, List, [], ◌∷◌, map, length, get_or, Option, Some, None, refl, sym, ap, subst, arith}
use Rattle.std.specs.Prelude.{bytes_eq, ◌&&◌, int_le, option_map, pos, unwrap_or, is_some, if◌then◌else◌}
use Rattle.std.specs.List.{enumerate_from, flat_map, list_all}
use Rattle.std.specs.Option.{option_or}
use Rattle.std.proofs.lemmas.Bool.{and_from, and_parts}
use Rattle.std.proofs.lemmas.Int.{ints}
use Rattle.std.proofs.lemmas.List.Folds.{list_all-append, list_all-map}
use Rattle.std.proofs.lemmas.Option.{slice_get-get_or}
use Rattle.std.proofs.lemmas.Simd.{map-map}
use Rattle.csv.specs.Records.{Rising}
use Rattle.gtfs_table.proofs.PartFacts.{all_in_part}
use Rattle.gtfs_table.specs.declared.file.File.{File}
use Rattle.gtfs_table.specs.declared.file.File.TheVariants as file
use Rattle.gtfs_schema.specs.Columns.{columns_of, optional, time}
use Rattle.gtfs_rows.proofs.RowTexts.{all_at}
use Rattle.gtfs_rows.specs.Cells.{are_cells, is_between, is_cell}
use Rattle.gtfs_rows.specs.Content.{Content}
use Rattle.gtfs_rows.specs.RowCells.{cells_in, frequency_cells, held_by, value_of_number, stop_time_cells, stop_times_of, trip_cells}
use Rattle.gtfs_rows.specs.Rows.{StopRow, Transfer, Trip}
use Rattle.gtfs_field.proofs.ListFacts.{any_mapped}
use Rattle.gtfs_rows.specs.NamedRows.{stop_row_named}
use Rattle.gtfs_rows.specs.SoundContent.{IsSound, has_ends, has_id, if_given, is_sound_transfer, is_stop_of}
use Rattle.gtfs_rows.specs.Trips.{stop_rows_by_trip}
use Rattle.gtfs_stop_times.specs.RowTimes.{left_at}
use Rattle.gtfs_rows.specs.RowsInMemory.{IsSoundParts, content_of_parts, stop_time_names_rows}
use Rattle.gtfs_rows.specs.declared.parts.Parts.{Parts}
use Rattle.gtfs_stop_times.specs.declared.stop_row.StopRow.{StopRow as StopTime}
use Rattle.gtfs_times.specs.Filling.{filled_rows, reached, time_at, timed, timed_trip}
use Rattle.gtfs_times.specs.TimedRows.{filled_stop_time, filled_stop_times, timed_parts, timed_stop_times}
use Rattle.gtfs_times.specs.declared.times.Times.{Times}
use Rattle.gtfs_times.specs.declared.times.Times.TheVariants as times
use Rattle.gtfs_times.proofs.FilledFeed.{blank, filled-order, fine, no_trip, trips-fine}
use Rattle.gtfs_times.proofs.FilledSound.{rows-fit}
use Rattle.gtfs_times.proofs.Stretches.{changed-length}
use Rattle.gtfs_times.proofs.TimedContent.{content-timed, timed-length}

abbrev fits : List ℕ → StopRow → Bool
fits id r = are_cells (columns_of file.StopTimes) (stop_time_cells (id, r))

abbrev of_row : List ℕ × StopRow → Bool
of_row z = are_cells (columns_of file.StopTimes) (stop_time_cells z)

-- ---- what trips hold

held-own : (xs : List Trip) → list_all of_row (held_by (λ t. t.trip_id) (λ t. t.stop_rows) xs) ≡ true → (k : ℕ) → k < length xs → list_all (fits (get_or xs k no_trip).trip_id) (get_or xs k no_trip).stop_rows ≡ true
held-own [] all k within = absurd (omega arith)
held-own (x ∷ xs) all zero within =
    let both = sym (list_all-append of_row (map (λ y. (x.trip_id, y)) x.stop_rows) (held_by (λ t. t.trip_id) (λ t. t.stop_rows) xs)) ∙ all in
    sym (list_all-map of_row (λ y. (x.trip_id, y)) x.stop_rows) ∙ (and_parts _ _ both).0
held-own (x ∷ xs) all (suc k) within =
    let both = sym (list_all-append of_row (map (λ y. (x.trip_id, y)) x.stop_rows) (held_by (λ t. t.trip_id) (λ t. t.stop_rows) xs)) ∙ all in
    held-own xs (and_parts _ _ both).1 k (omega arith)

held-filled : (xs : List Trip) → ((k : ℕ) → k < length xs → list_all (fits (get_or xs k no_trip).trip_id) (filled_rows (get_or xs k no_trip).stop_rows) ≡ true)
    → list_all of_row (held_by (λ t. t.trip_id) (λ t. t.stop_rows) (map (timed_trip times.Interpolated) xs)) ≡ true
held-filled [] each = refl
held-filled (x ∷ xs) each =
    let rest = held_by (λ t. t.trip_id) (λ t. t.stop_rows) (map (timed_trip times.Interpolated) xs) in
    list_all-append of_row (map (λ y. (x.trip_id, y)) (filled_rows x.stop_rows)) rest
    ∙ and_from _ _ (list_all-map of_row (λ y. (x.trip_id, y)) (filled_rows x.stop_rows) ∙ each 0 (omega arith)) (held-filled xs (λ k within. each (suc k) (omega arith)))

held-same : {Y : Type 0} (of : Trip → List Y) → ((t : Trip) → of (timed_trip times.Interpolated t) ≡ of t) → (xs : List Trip) → held_by (λ t. t.trip_id) of (map (timed_trip times.Interpolated) xs) ≡ held_by (λ t. t.trip_id) of xs
held-same of same [] = refl
held-same of same (x ∷ xs) = λ i. map (λ y. (x.trip_id, y)) (same x i) ++ held-same of same xs i

-- ---- the latest time of a file

at-most : (m : ℕ) → is_between (pos 0) (pos 3_599_999) (pos m) ≡ true → m ≤ 3_599_999
at-most m h = below m 3_599_999 (and_parts (int_le (pos 0) (pos m)) (int_le (pos m) (pos 3_599_999)) h).1
  where
    below : (a b : ℕ) → int_le (pos a) (pos b) ≡ true → a ≤ b
    below a b le = grind (arith, ints)

reached-early : (a d : Option ℕ) → is_cell (optional "arrival_time" time) (option_map value_of_number a) ≡ true → is_cell (optional "departure_time" time) (option_map value_of_number d) ≡ true → unwrap_or (option_or a d) 0 ≤ 3_599_999
reached-early None None h k = omega arith
reached-early None (Some m) h k = at-most m k
reached-early (Some m) d h k = at-most m h

row-early : (k : ℕ) (id : List ℕ) (r : StopRow) → fits id r ≡ true → reached (k, r) ≤ 3_599_999
row-early k id r all =
    let one = and_parts _ _ all in
    let two = and_parts _ _ one.1 in
    let three = and_parts _ _ two.1 in
    reached-early r.arrival_time r.departure_time two.0 three.0

module _ (p : Parts) (sound : IsSoundParts p) where
  abbrev c : Content
  c = content_of_parts p

  filled-cells : (x : File) → list_all (are_cells (columns_of x)) (cells_in (timed times.Interpolated c) x) ≡ true
  filled-cells file.Agency = sound.content.cells file.Agency
  filled-cells file.Stops = sound.content.cells file.Stops
  filled-cells file.Routes = sound.content.cells file.Routes
  filled-cells file.Trips = ap (list_all (are_cells (columns_of file.Trips))) (map-map trip_cells (timed_trip times.Interpolated) c.trips) ∙ sound.content.cells file.Trips
  filled-cells file.StopTimes =
      let held = held-own c.trips (sym (list_all-map (are_cells (columns_of file.StopTimes)) stop_time_cells (stop_times_of c)) ∙ sound.content.cells file.StopTimes) in
      list_all-map (are_cells (columns_of file.StopTimes)) stop_time_cells (stop_times_of (timed times.Interpolated c))
      ∙ held-filled c.trips (λ k within.
      let t = get_or c.trips k no_trip in
      rows-fit c t.stop_rows blank (fine p sound k within) t.trip_id (held k within)
      (λ n inside. row-early n t.trip_id (get_or t.stop_rows n blank) (all_at (fits t.trip_id) t.stop_rows n blank (held k within) inside)))
  filled-cells file.Calendar = sound.content.cells file.Calendar
  filled-cells file.CalendarDates = sound.content.cells file.CalendarDates
  filled-cells file.Frequencies =
      ap (λ ys. list_all (are_cells (columns_of file.Frequencies)) (map frequency_cells ys)) (held-same (λ t. t.frequencies) (λ t. refl) c.trips) ∙ sound.content.cells file.Frequencies
  filled-cells file.Transfers = sound.content.cells file.Transfers

  trips-known : (x : List ℕ) → has_id (λ r. r.trip_id) (timed times.Interpolated c).trips x ≡ has_id (λ r. r.trip_id) c.trips x
  trips-known x = any_mapped (λ t. bytes_eq t.trip_id x) (timed_trip times.Interpolated) c.trips

  same-transfer : (t : Transfer) → is_sound_transfer (timed times.Interpolated c) t ≡ is_sound_transfer c t
  same-transfer t = λ i. if_given t.from_stop_id (is_stop_of c (0 ∷ 1 ∷ [])) && if_given t.to_stop_id (is_stop_of c (0 ∷ 1 ∷ []))
      && if_given t.from_route_id (has_id (λ r. r.route_id) c.routes) && if_given t.to_route_id (has_id (λ r. r.route_id) c.routes)
      && if_given t.from_trip_id (λ x. trips-known x i) && if_given t.to_trip_id (λ x. trips-known x i) && has_ends t

  filled-content : IsSound (timed times.Interpolated c)
  filled-content = record {
    cells = filled-cells;
    in_order = filled-order p sound;
    has_agency = sound.content.has_agency;
    agencies = sound.content.agencies;
    stops = sound.content.stops;
    routes = sound.content.routes;
    services = sound.content.services;
    trips = trips-fine p sound;
    transfers = (λ i. list_all (λ t. same-transfer t i) c.transfers) ∙ sound.content.transfers;
  }

  timed-content : (choice : Times) → IsSound (timed choice c)
  timed-content times.Given = subst IsSound (λ i. record c { trips = sym (as-given c.trips) i }) sound.content
    where
      as-given : (ts : List Trip) → map (timed_trip times.Given) ts ≡ ts
      as-given [] = refl
      as-given (t ∷ ts) = ap (λ us. t ∷ us) (as-given ts)
  timed-content times.Interpolated = filled-content

  -- ---- rows by numbers

  names-kept : (b : Bool) (r : StopTime) (t : Option ℕ) → stop_time_names_rows p (if b then r else record r { arrival_time = t; departure_time = t }) ≡ stop_time_names_rows p r
  names-kept true r t = refl
  names-kept false r t = refl

  filled-names : (rows : List StopTime) → list_all (stop_time_names_rows p) rows ≡ true → list_all (stop_time_names_rows p) (filled_stop_times rows) ≡ true
  filled-names rows all =
      list_all-map (stop_time_names_rows p) (filled_stop_time rows) (enumerate_from 0 rows)
      ∙ (λ i. list_all (λ x. names-kept (is_some (left_at x.1)) x.1 (time_at (map (stop_row_named [] []) rows) x.0) i) (enumerate_from 0 rows))
      ∙ over 0 rows all
    where
      over : (a : ℕ) (xs : List StopTime) → list_all (stop_time_names_rows p) xs ≡ true → list_all (λ x. stop_time_names_rows p x.1) (enumerate_from a xs) ≡ true
      over a [] all = refl
      over a (x ∷ xs) all = let both = and_parts (stop_time_names_rows p x) (list_all (stop_time_names_rows p) xs) all in and_from _ _ both.0 (over (a + 1) xs both.1)

  timed-names : (choice : Times) (rows : List StopTime) → list_all (stop_time_names_rows p) rows ≡ true → list_all (stop_time_names_rows p) (timed_stop_times choice rows) ≡ true
  timed-names times.Given rows all = all
  timed-names times.Interpolated rows all = filled-names rows all

  all-names : (choice : Times) (parts : List (List StopTime)) → ((k : ℕ) → k < length parts → list_all (stop_time_names_rows p) (get_or parts k []) ≡ true)
      → list_all (stop_time_names_rows p) (flat_map (timed_stop_times choice) parts) ≡ true
  all-names choice [] each = refl
  all-names choice (x ∷ xs) each =
      list_all-append (stop_time_names_rows p) (timed_stop_times choice x) (flat_map (timed_stop_times choice) xs)
      ∙ and_from _ _ (timed-names choice x (each 0 (omega arith))) (all-names choice xs (λ k within. each (suc k) (omega arith)))

  pub sound-timed : (choice : Times) → IsSoundParts (timed_parts choice p)
  sound-timed choice =
      let by = stop_rows_by_trip p in
      let size : length (timed_parts choice p).stop_times.rows ≡ length p.stop_times.rows =
      omega (arith, changed-length (timed_stop_times choice) (timed-length choice) 0 p.stop_times.starts p.stop_times.rows sound.stop_rows.1, sound.stop_rows.2) in
      record {
        names_rows = record {
          stops = sound.names_rows.stops;
          routes = sound.names_rows.routes;
          trips = sound.names_rows.trips;
          stop_rows = all-names choice by (λ k within. all_in_part (stop_time_names_rows p) p.stop_times.starts p.stop_times.rows k (get_or by k []) sound.names_rows.stop_rows (slice_get-get_or by k [] within));
          transfers = sound.names_rows.transfers;
        };
        stop_rows = (
          sound.stop_rows.0,
          subst (λ n. Rising 0 p.stop_times.starts n) (sym size) sound.stop_rows.1,
          ap (get_or p.stop_times.starts 0) size ∙ sound.stop_rows.2,
        );
        frequencies = sound.frequencies;
        content = subst IsSound (sym (content-timed choice p sound)) (timed-content choice);
      }

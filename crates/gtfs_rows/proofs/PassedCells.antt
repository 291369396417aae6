-- The cells of the content of a dataset that passes lie in their columns' kinds, and none is missing.
use Rattle.std.proofs.Common.{◌≡◌, ◌∙◌, ℕ, List, [], ◌∷◌, true, false, Bool, Option, Some, None, refl, sym, ap, subst}
use Rattle.std.specs.Prelude.{◌&&◌, not, codes, if◌then◌else◌, option_and_then, option_map, unwrap_or, pos}
use Prim.Native.String.{String as Literal}
use Rattle.std.specs.Cmp.Lexicographic.{nat_list_cmp_total}
use Rattle.std.specs.List.{Contains, list_all}
use Rattle.std.specs.Ordering.{int_eq}
use Rattle.std.proofs.lemmas.Bool.{and_parts, and_from, not-true, true≢false}
use Rattle.std.proofs.lemmas.List.Folds.{list_all-map}
use Rattle.gtfs_days.specs.declared.exception.Exception.TheVariants.{Added, Removed}
use Rattle.gtfs_field.specs.declared.coord.Axis.TheVariants.{Latitude, Longitude}
use Rattle.gtfs_field.specs.TextOrder.{text_cmp}
use Rattle.gtfs_table.specs.Rows.{is_row, records_in, rows, is_empty}
use Rattle.gtfs_table.specs.Tables.{Dataset}
use Rattle.gtfs_table.specs.declared.file.File.{File}
use Rattle.gtfs_table.specs.declared.file.File.TheVariants as file
use Rattle.gtfs_schema.specs.Calendars.{week_in, exception_in, serves_weekday, field_number as signed_in}
use Rattle.gtfs_schema.specs.Columns.{Kind, id, text, count, choice, time, date, colour, coordinate, column_named, columns_of, required, optional, defaulting, up_to, positive, route_types}
use Rattle.gtfs_schema.specs.Problems.{Passes}
use Rattle.gtfs_schema.specs.RowConditions.{word_in}
use Rattle.gtfs_schema.specs.FieldValues.{Value, word, amount, as_word}
use Rattle.gtfs_rows.specs.Cells.{is_clean, is_of_kind, is_cell, are_cells}
use Rattle.gtfs_rows.specs.TransferOrder.{transfer_key, transfer_key_cmp}
use Rattle.gtfs_rows.specs.ContentRead.{text_at, number_in, number_at, agency_in, stop_in, first_agency, route_in, stop_row_in, frequency_in, trip_in, transfer_in, content_of}
use Rattle.gtfs_rows.specs.RowCells.{value_of_number, id_cell, flag, exception_number, cells_in, agency_cells, stop_cells, route_cells, trip_cells, stop_time_cells, week_cells, exception_cells, frequency_cells, transfer_cells, stop_times_of, weeks_of, exceptions_of, frequencies_of}
use Rattle.gtfs_rows.proofs.ContentAgain.{transfer_total}
use Rattle.gtfs_rows.proofs.ContentRows.{row_of, all_made, NamesTrip, NamesService, stop_time_made, frequency_made, week_made, exception_made}
use Rattle.gtfs_rows.proofs.CutTexts.{IsCut}
use Rattle.gtfs_rows.proofs.KeyedRows.{all_from}
use Rattle.gtfs_rows.proofs.KindOptions.{Fits, is_natural}
use Rattle.gtfs_rows.proofs.PassedValues.{value_fits, required_word, required_number, required_amount, optional_word, optional_number, optional_amount, defaulting_number}
use Rattle.gtfs_rows.proofs.SameElements.{contains-first}

-- ---- cells that go by no text alone

-- an id that is there, or the empty one
id_cell_fits : (name : Literal) (o : Option Value) → Fits id o → is_cell (optional name id) (id_cell (unwrap_or (option_and_then as_word o) [])) ≡ true
id_cell_fits name None fits = refl
id_cell_fits name (Some (word t)) fits =
    let filled : is_empty t ≡ false = not-true (is_empty t) (and_parts (is_clean t) (not (is_empty t)) (fits (word t) refl)).1 in
    rw filled (fits (word t) refl)
id_cell_fits name (Some (amount x)) fits = cc

-- a 1 or a 0
flag_fits : (name : Literal) (b : Bool) → is_cell (required name (up_to 1)) (flag b) ≡ true
flag_fits name true = refl
flag_fits name false = refl

exception_fits : (b : Bool) → is_cell (required "exception_type" (choice ((1, 2) ∷ []))) (Some (value_of_number (exception_number (if b then Added else Removed)))) ≡ true
exception_fits true = refl
exception_fits false = refl

pub digit_cut : IsCut (codes "0")
digit_cut = record { first = refl; last = refl }

white_cut : IsCut (codes "FFFFFF")
white_cut = record { first = refl; last = refl }

black_cut : IsCut (codes "000000")
black_cut = record { first = refl; last = refl }

-- one more cell
more : {a b : Bool} → a ≡ true → b ≡ true → (a && b) ≡ true
more {a} {b} p q = and_from a b p q

-- ---- the columns of a row

module _ (d : Dataset) (passes : Passes d) (x : File) (n : ℕ) (row : is_row (records_in d x) n ≡ true) where
  an_id : (name : Literal) → column_named x (codes name) ≡ Some (required name id) → is_of_kind id (word (text_at d x n name)) ≡ true
  an_id name there = required_word d passes x n row name id there refl

  a_text : (name : Literal) → column_named x (codes name) ≡ Some (required name text) → is_of_kind text (word (text_at d x n name)) ≡ true
  a_text name there = required_word d passes x n row name text there refl

  id_if_any : (name : Literal) → column_named x (codes name) ≡ Some (optional name id) → is_cell (optional name id) (option_map word (word_in d x n name)) ≡ true
  id_if_any name there = optional_word d passes x n row name id there refl

  text_if_any : (name : Literal) → column_named x (codes name) ≡ Some (optional name text) → is_cell (optional name text) (option_map word (word_in d x n name)) ≡ true
  text_if_any name there = optional_word d passes x n row name text there refl

  number_if_any : (name : Literal) (k : Kind) → column_named x (codes name) ≡ Some (optional name k) → is_natural k ≡ true → is_cell (optional name k) (option_map value_of_number (number_in d x n name)) ≡ true
  number_if_any name k there natural = optional_number d passes x n row name k there natural

  a_number : (name : Literal) (k : Kind) → column_named x (codes name) ≡ Some (required name k) → is_natural k ≡ true → is_of_kind k (value_of_number (number_at d x n name)) ≡ true
  a_number name k there natural = required_number d passes x n row name k there natural

  -- a choice that is 0 where it is empty
  a_choice : (name : Literal) (k : Kind) → column_named x (codes name) ≡ Some (defaulting name k "0") → is_natural k ≡ true → is_of_kind k (value_of_number (number_at d x n name)) ≡ true
  a_choice name k there natural = defaulting_number d passes x n row name k "0" there digit_cut natural

-- ---- the rows of each file

module _ (d : Dataset) (passes : Passes d) where
  agency_id_fits : (n : ℕ) → is_row (records_in d file.Agency) n ≡ true → is_cell (optional "agency_id" id) (id_cell (text_at d file.Agency n "agency_id")) ≡ true
  agency_id_fits n row = id_cell_fits "agency_id" _ (value_fits d passes file.Agency n row "agency_id" id refl)

  agency_fits : (n : ℕ) → is_row (records_in d file.Agency) n ≡ true → are_cells (columns_of file.Agency) (agency_cells (agency_in d n)) ≡ true
  agency_fits n row =
      more (agency_id_fits n row)
      (more (a_text d passes file.Agency n row "agency_name" refl)
      (more (a_text d passes file.Agency n row "agency_url" refl)
      (more (an_id d passes file.Agency n row "agency_timezone" refl)
      (more (text_if_any d passes file.Agency n row "agency_lang" refl)
      (more (text_if_any d passes file.Agency n row "agency_phone" refl)
      (more (text_if_any d passes file.Agency n row "agency_fare_url" refl)
      (more (text_if_any d passes file.Agency n row "agency_email" refl) refl)))))))

  stop_fits : (n : ℕ) → is_row (records_in d file.Stops) n ≡ true → are_cells (columns_of file.Stops) (stop_cells (stop_in d n)) ≡ true
  stop_fits n row =
      more (an_id d passes file.Stops n row "stop_id" refl)
      (more (text_if_any d passes file.Stops n row "stop_code" refl)
      (more (text_if_any d passes file.Stops n row "stop_name" refl)
      (more (text_if_any d passes file.Stops n row "tts_stop_name" refl)
      (more (text_if_any d passes file.Stops n row "stop_desc" refl)
      (more (optional_amount d passes file.Stops n row "stop_lat" (coordinate Latitude) refl refl)
      (more (optional_amount d passes file.Stops n row "stop_lon" (coordinate Longitude) refl refl)
      (more (text_if_any d passes file.Stops n row "stop_url" refl)
      (more (a_choice d passes file.Stops n row "location_type" (up_to 4) refl refl)
      (more (id_if_any d passes file.Stops n row "parent_station" refl)
      (more (a_choice d passes file.Stops n row "wheelchair_boarding" (up_to 2) refl refl)
      (more (text_if_any d passes file.Stops n row "platform_code" refl) refl)))))))))))

  -- the agency of a route that names none
  first_agency_fits : (ns : List ℕ) → ((n : ℕ) → Contains ns n → is_row (records_in d file.Agency) n ≡ true) → is_cell (optional "agency_id" id) (id_cell (first_agency d ns)) ≡ true
  first_agency_fits [] are = refl
  first_agency_fits (n ∷ ns) are = agency_id_fits n (are n (contains-first n n ns refl))

  agency_or_first : (o : Option Value) → Fits id o → is_cell (optional "agency_id" id) (id_cell (unwrap_or (option_and_then as_word o) (first_agency d (rows d file.Agency)))) ≡ true
  agency_or_first None fits = first_agency_fits (rows d file.Agency) (row_of d file.Agency)
  agency_or_first (Some (word t)) fits = id_cell_fits "agency_id" (Some (word t)) fits
  agency_or_first (Some (amount y)) fits = absurd (true≢false (sym (fits (amount y) refl)))

  route_fits : (n : ℕ) → is_row (records_in d file.Routes) n ≡ true → are_cells (columns_of file.Routes) (route_cells (route_in d n)) ≡ true
  route_fits n row =
      more (an_id d passes file.Routes n row "route_id" refl)
      (more (agency_or_first _ (value_fits d passes file.Routes n row "agency_id" id refl))
      (more (text_if_any d passes file.Routes n row "route_short_name" refl)
      (more (text_if_any d passes file.Routes n row "route_long_name" refl)
      (more (text_if_any d passes file.Routes n row "route_desc" refl)
      (more (a_number d passes file.Routes n row "route_type" route_types refl refl)
      (more (text_if_any d passes file.Routes n row "route_url" refl)
      (more (defaulting_number d passes file.Routes n row "route_color" colour "FFFFFF" refl white_cut refl)
      (more (defaulting_number d passes file.Routes n row "route_text_color" colour "000000" refl black_cut refl)
      (more (number_if_any d passes file.Routes n row "route_sort_order" count refl refl) refl)))))))))

  trip_fits : (n : ℕ) → is_row (records_in d file.Trips) n ≡ true → are_cells (columns_of file.Trips) (trip_cells (trip_in d n)) ≡ true
  trip_fits n row =
      more (an_id d passes file.Trips n row "route_id" refl)
      (more (an_id d passes file.Trips n row "service_id" refl)
      (more (an_id d passes file.Trips n row "trip_id" refl)
      (more (text_if_any d passes file.Trips n row "trip_headsign" refl)
      (more (text_if_any d passes file.Trips n row "trip_short_name" refl)
      (more (number_if_any d passes file.Trips n row "direction_id" (up_to 1) refl refl)
      (more (a_choice d passes file.Trips n row "wheelchair_accessible" (up_to 2) refl refl)
      (more (a_choice d passes file.Trips n row "bikes_allowed" (up_to 2) refl refl) refl)))))))

  -- the word that a row names stands in its column
  named_fits : (x : File) (n : ℕ) (row : is_row (records_in d x) n ≡ true) (name : Literal) → column_named x (codes name) ≡ Some (required name id) → (q : List ℕ) → word_in d x n name ≡ Some q → is_of_kind id (word q) ≡ true
  named_fits x n row name there q named = subst (λ t. is_of_kind id (word t) ≡ true) (ap (λ o. unwrap_or o []) named) (an_id d passes x n row name there)

  stop_time_fits : (q : List ℕ) (n : ℕ) → NamesTrip d file.StopTimes q n → are_cells (columns_of file.StopTimes) (stop_time_cells (q, stop_row_in d n)) ≡ true
  stop_time_fits q n names =
      let row = names.row in
      more (named_fits file.StopTimes n row "trip_id" refl q names.named)
      (more (number_if_any d passes file.StopTimes n row "arrival_time" time refl refl)
      (more (number_if_any d passes file.StopTimes n row "departure_time" time refl refl)
      (more (an_id d passes file.StopTimes n row "stop_id" refl)
      (more (a_number d passes file.StopTimes n row "stop_sequence" count refl refl)
      (more (text_if_any d passes file.StopTimes n row "stop_headsign" refl)
      (more (a_choice d passes file.StopTimes n row "pickup_type" (up_to 3) refl refl)
      (more (a_choice d passes file.StopTimes n row "drop_off_type" (up_to 3) refl refl)
      (more (number_if_any d passes file.StopTimes n row "timepoint" (up_to 1) refl refl) refl))))))))

  frequency_fits : (q : List ℕ) (n : ℕ) → NamesTrip d file.Frequencies q n → are_cells (columns_of file.Frequencies) (frequency_cells (q, frequency_in d n)) ≡ true
  frequency_fits q n names =
      let row = names.row in
      more (named_fits file.Frequencies n row "trip_id" refl q names.named)
      (more (a_number d passes file.Frequencies n row "start_time" time refl refl)
      (more (a_number d passes file.Frequencies n row "end_time" time refl refl)
      (more (a_number d passes file.Frequencies n row "headway_secs" positive refl refl)
      (more (a_choice d passes file.Frequencies n row "exact_times" (up_to 1) refl refl) refl))))

  week_fits : (q : List ℕ) (n : ℕ) → NamesService d file.Calendar q n → are_cells (columns_of file.Calendar) (week_cells (q, week_in d n)) ≡ true
  week_fits q n names =
      let row = names.row in
      more (named_fits file.Calendar n row "service_id" refl q names.named)
      (more (flag_fits "monday" (serves_weekday d n "monday"))
      (more (flag_fits "tuesday" (serves_weekday d n "tuesday"))
      (more (flag_fits "wednesday" (serves_weekday d n "wednesday"))
      (more (flag_fits "thursday" (serves_weekday d n "thursday"))
      (more (flag_fits "friday" (serves_weekday d n "friday"))
      (more (flag_fits "saturday" (serves_weekday d n "saturday"))
      (more (flag_fits "sunday" (serves_weekday d n "sunday"))
      (more (required_amount d passes file.Calendar n row "start_date" date refl refl)
      (more (required_amount d passes file.Calendar n row "end_date" date refl refl) refl)))))))))

  exception_row_fits : (q : List ℕ) (n : ℕ) → NamesService d file.CalendarDates q n → are_cells (columns_of file.CalendarDates) (exception_cells (q, exception_in d n)) ≡ true
  exception_row_fits q n names =
      let row = names.row in
      more (named_fits file.CalendarDates n row "service_id" refl q names.named)
      (more (required_amount d passes file.CalendarDates n row "date" date refl refl)
      (more (exception_fits (int_eq (signed_in d file.CalendarDates n "exception_type") (pos 1))) refl))

  transfer_fits : (n : ℕ) → is_row (records_in d file.Transfers) n ≡ true → are_cells (columns_of file.Transfers) (transfer_cells (transfer_in d n)) ≡ true
  transfer_fits n row =
      more (id_if_any d passes file.Transfers n row "from_stop_id" refl)
      (more (id_if_any d passes file.Transfers n row "to_stop_id" refl)
      (more (id_if_any d passes file.Transfers n row "from_route_id" refl)
      (more (id_if_any d passes file.Transfers n row "to_route_id" refl)
      (more (id_if_any d passes file.Transfers n row "from_trip_id" refl)
      (more (id_if_any d passes file.Transfers n row "to_trip_id" refl)
      (more (a_choice d passes file.Transfers n row "transfer_type" (up_to 5) refl refl)
      (more (number_if_any d passes file.Transfers n row "min_transfer_time" count refl refl) refl)))))))

  -- ---- all rows

  pub cells_fit : (x : File) → list_all (are_cells (columns_of x)) (cells_in (content_of d) x) ≡ true
  cells_fit file.Agency = list_all-map (are_cells (columns_of file.Agency)) agency_cells (content_of d).agencies
      ∙ all_made text_cmp nat_list_cmp_total (λ a. a.agency_id) (agency_in d) (rows d file.Agency) (λ a. are_cells (columns_of file.Agency) (agency_cells a)) (λ n at. agency_fits n (row_of d file.Agency n at))
  cells_fit file.Stops = list_all-map (are_cells (columns_of file.Stops)) stop_cells (content_of d).stops
      ∙ all_made text_cmp nat_list_cmp_total (λ s. s.stop_id) (stop_in d) (rows d file.Stops) (λ s. are_cells (columns_of file.Stops) (stop_cells s)) (λ n at. stop_fits n (row_of d file.Stops n at))
  cells_fit file.Routes = list_all-map (are_cells (columns_of file.Routes)) route_cells (content_of d).routes
      ∙ all_made text_cmp nat_list_cmp_total (λ r. r.route_id) (route_in d) (rows d file.Routes) (λ r. are_cells (columns_of file.Routes) (route_cells r)) (λ n at. route_fits n (row_of d file.Routes n at))
  cells_fit file.Trips = list_all-map (are_cells (columns_of file.Trips)) trip_cells (content_of d).trips
      ∙ all_made text_cmp nat_list_cmp_total (λ t. t.trip_id) (trip_in d) (rows d file.Trips) (λ t. are_cells (columns_of file.Trips) (trip_cells t)) (λ n at. trip_fits n (row_of d file.Trips n at))
  cells_fit file.StopTimes = list_all-map (are_cells (columns_of file.StopTimes)) stop_time_cells (stop_times_of (content_of d))
      ∙ all_from (λ p. are_cells (columns_of file.StopTimes) (stop_time_cells p)) (stop_times_of (content_of d)) (λ p at.
      let m = stop_time_made d p at in
      subst (λ r. are_cells (columns_of file.StopTimes) (stop_time_cells (p.0, r)) ≡ true) m.same (stop_time_fits p.0 m.row m.names))
  cells_fit file.Calendar = list_all-map (are_cells (columns_of file.Calendar)) week_cells (weeks_of (content_of d))
      ∙ all_from (λ p. are_cells (columns_of file.Calendar) (week_cells p)) (weeks_of (content_of d)) (λ p at.
      let m = week_made d p at in
      subst (λ w. are_cells (columns_of file.Calendar) (week_cells (p.0, w)) ≡ true) m.same (week_fits p.0 m.row m.names))
  cells_fit file.CalendarDates = list_all-map (are_cells (columns_of file.CalendarDates)) exception_cells (exceptions_of (content_of d))
      ∙ all_from (λ p. are_cells (columns_of file.CalendarDates) (exception_cells p)) (exceptions_of (content_of d)) (λ p at.
      let m = exception_made d p at in
      subst (λ e. are_cells (columns_of file.CalendarDates) (exception_cells (p.0, e)) ≡ true) m.same (exception_row_fits p.0 m.row m.names))
  cells_fit file.Frequencies = list_all-map (are_cells (columns_of file.Frequencies)) frequency_cells (frequencies_of (content_of d))
      ∙ all_from (λ p. are_cells (columns_of file.Frequencies) (frequency_cells p)) (frequencies_of (content_of d)) (λ p at.
      let m = frequency_made d p at in
      subst (λ f. are_cells (columns_of file.Frequencies) (frequency_cells (p.0, f)) ≡ true) m.same (frequency_fits p.0 m.row m.names))
  cells_fit file.Transfers = list_all-map (are_cells (columns_of file.Transfers)) transfer_cells (content_of d).transfers
      ∙ all_made transfer_key_cmp transfer_total transfer_key (transfer_in d) (rows d file.Transfers) (λ t. are_cells (columns_of file.Transfers) (transfer_cells t)) (λ n at. transfer_fits n (row_of d file.Transfers n at))

-- What is reported of a row of stop_times.txt by its readings.
use Rattle.std.proofs.Common.{◌≡◌, ℕ, List, [], ◌∷◌, true, false, Bool, refl, sym, ap, ◌∙◌, codes, Option, Some, None}
use Rattle.std.specs.Prelude.{◌&&◌, ◌||◌, ◌==◌, not, if◌then◌else◌, int_lt, is_some, option_and_then, option_map, pos, Ok}
use Rattle.std.specs.Result.{result_ok}
use Rattle.gtfs_field.specs.Kinds.{shaped}
use Rattle.std.specs.Borrow.{Bor}
use Rattle.gtfs_field.proofs.OptionFacts.{is_some-map as some_mapped}
use Rattle.gtfs_table.specs.Tables.{Dataset}
use Rattle.gtfs_table.specs.declared.file.File.{File}
use Rattle.gtfs_table.specs.declared.file.File.TheVariants as file
use Rattle.gtfs_schema.specs.declared.code.Code.{Code}
use Rattle.gtfs_schema.specs.declared.code.Code.TheVariants as code
use Rattle.gtfs_trip_rules.specs.declared.stop_times.columns.ReadStopTime.{ReadStopTime}
use Rattle.gtfs_trip_rules.specs.declared.stop_times.named.NamedRows.{NamedRows}
use Rattle.gtfs_schema.specs.Columns.{id, time}
use Rattle.gtfs_schema.specs.steps.FoundProblems.{Adds, is_same}
use Rattle.gtfs_schema.specs.steps.Ids.{FirstRows, first_row_with, first_rows}
use Rattle.gtfs_schema.specs.steps.KeptColumns.{at_column}
use Rattle.gtfs_schema.specs.steps.SitePicks.{at_sites}
use Rattle.gtfs_schema.specs.Problems.{Problem, holds_in, is_problem}
use Rattle.gtfs_trip_rules.specs.StopTimeFields.{is_blank, text_of, value_in}
use Rattle.gtfs_schema.specs.ReadFields.{amount_of}
use Rattle.gtfs_table.specs.Rows.{is_row, records_in, is_empty}
use Rattle.gtfs_schema.specs.steps.StopTypes.{type_of, type_with}
use Rattle.gtfs_trip_rules.specs.StopTimePicks.{at_row, departures_in_rows, in_names, in_times, names_in_rows, stops_in_rows, times_in_rows}
use Rattle.gtfs_trip_rules.specs.StopTimes.{stop_time_text, AreNamedRows, IsRow, ReportsOfRow}
use Rattle.gtfs_schema.specs.TripRules.{lacks_time, leaves_early}
use Rattle.gtfs_schema.specs.steps.UnknownIds.{is_unknown}
use Rattle.gtfs_schema.specs.FieldValues.{word, amount, as_amount, as_word, has_control, if_both, if_there, is_one_of, readable}
use Rattle.gtfs_schema.proofs.SiteFacts.{problem_at}
use Rattle.gtfs_schema.proofs.ReferenceFacts.{unknown_in}
use Rattle.gtfs_schema.proofs.RuleFacts.{row_reported}
use Rattle.gtfs_schema.proofs.StepFacts.{alone}
use Rattle.gtfs_schema.proofs.StopTypeFacts.{named_reported}
use Rattle.gtfs_schema.proofs.ReportingFacts.{reports_alike, reports_then}

-- ---- steps about one row

both_at : (a b r : Bool) → ((a && r) || (b && r)) ≡ ((a || b) && r)
both_at true b true = refl
both_at true true false = refl
both_at true false false = refl
both_at false b r = refl

pub rows_then : (d : Dataset) (n : ℕ) (a b : Problem → Bool) (xs ys zs : List Problem)
    → ReportsOfRow d a n xs ys → ReportsOfRow d b n ys zs → ReportsOfRow d (λ p. a p || b p) n xs zs
rows_then d n a b xs ys zs first second =
    reports_alike d (λ p. at_row a n p || at_row b n p) (at_row (λ p. a p || b p) n) xs zs
    (λ p. ap (λ t. t && is_problem d p) (both_at (a p) (b p) (p.row == n)))
    (reports_then d (at_row a n) (at_row b n) xs ys zs first second)

-- at one column
row_last : (d : Dataset) (n : ℕ) (c : Code) (name : List ℕ) (xs ys : List Problem)
    → ReportsOfRow d (at_column c file.StopTimes name) n xs ys → ReportsOfRow d (at_sites c ((file.StopTimes, name) ∷ [])) n xs ys
row_last d n c name xs ys = reports_alike d (at_row (at_column c file.StopTimes name) n) (at_row (at_sites c ((file.StopTimes, name) ∷ [])) n) xs ys
    (λ p. ap (λ t. (t && (p.row == n)) && is_problem d p) (sym (alone (at_column c file.StopTimes name p))))

-- at one column, and then at others
row_first : (d : Dataset) (n : ℕ) (c : Code) (name : List ℕ) (sites : List (File × List ℕ)) (xs ys zs : List Problem)
    → ReportsOfRow d (at_column c file.StopTimes name) n xs ys → ReportsOfRow d (at_sites c sites) n ys zs
    → ReportsOfRow d (at_sites c ((file.StopTimes, name) ∷ sites)) n xs zs
row_first d n c name sites = rows_then d n (at_column c file.StopTimes name) (at_sites c sites)

-- ---- readings

pub counted_text : (v : Option ℕ) → option_and_then as_amount (option_map (λ x. amount (pos x)) v) ≡ option_map pos v
counted_text None = refl
counted_text (Some x) = refl

pub worded_text : (v : Option (Bor (List ℕ))) → option_and_then as_word (option_map (λ t. word t.now) v) ≡ text_of v
worded_text None = refl
worded_text (Some t) = refl

-- ---- what each code says of a row of this file, at its column

abbrev pub Rules : Dataset → Code → List ℕ → (ℕ → Bool) → Type 0
Rules d c name breaks = (n : ℕ) → holds_in c d file.StopTimes n name ≡ (is_row (records_in d file.StopTimes) n && breaks n)

module _ (d : Dataset) where
  abbrev pub stop_unknown : ℕ → Bool
  stop_unknown n = is_unknown (first_rows d file.Stops (codes "stop_id")) (stop_time_text d n "stop_id")

  abbrev pub trip_unknown : ℕ → Bool
  trip_unknown n = is_unknown (first_rows d file.Trips (codes "trip_id")) (stop_time_text d n "trip_id")

  abbrev pub other_kind : NamedRows → ℕ → Bool
  other_kind r n = if_there (type_with r.types.now r.stops.ids.now (stop_time_text d n "stop_id")) (λ t. not (is_one_of (0 ∷ []) t))

  pub stop_rule : Rules d code.E10 (codes "stop_id") stop_unknown
  stop_rule n = unknown_in d file.StopTimes n (codes "stop_id") file.Stops (codes "stop_id") _ refl

  pub trip_rule : Rules d code.E10 (codes "trip_id") trip_unknown
  trip_rule n = unknown_in d file.StopTimes n (codes "trip_id") file.Trips (codes "trip_id") _ refl

  pub kind_rule : (r : NamedRows) → AreNamedRows d r → Rules d code.E11 (codes "stop_id") (other_kind r)
  kind_rule r named n = named_reported d r.types.now named.types r.stops.ids.now named.stops (is_row (records_in d file.StopTimes) n) (0 ∷ []) (stop_time_text d n "stop_id")

  pub early_rule : Rules d code.E16 (codes "departure_time") (leaves_early d)
  early_rule n = refl

  pub no_arrival_rule : Rules d code.W08 (codes "arrival_time") (lacks_time "arrival_time" "departure_time" d)
  no_arrival_rule n = alone _

  pub no_departure_rule : Rules d code.W08 (codes "departure_time") (lacks_time "departure_time" "arrival_time" d)
  no_departure_rule n = alone _

module _ (d : Dataset) (s : ReadStopTime) (is : IsRow d s) where
  one_reported : (c : Code) (name : List ℕ) (breaks : ℕ → Bool) → Rules d c name breaks → (b : Bool) → b ≡ breaks s.row → (old new : List Problem) → Adds (λ p. is_same (problem_at c file.StopTimes name s.row) p && b) old new
      → ReportsOfRow d (at_column c file.StopTimes name) s.row old new
  one_reported c name breaks rule b same old new adds = row_reported d c file.StopTimes name breaks rule s.row old new is.row (rw same at adds)

  -- ---- the two times

  arrival : option_map pos (value_in s.arrival_time) ≡ amount_of time (stop_time_text d s.row "arrival_time")
  arrival = sym (counted_text (value_in s.arrival_time)) ∙ ap (option_and_then as_amount) is.says.arrival_time.value

  departure : option_map pos (value_in s.departure_time) ≡ amount_of time (stop_time_text d s.row "departure_time")
  departure = sym (counted_text (value_in s.departure_time)) ∙ ap (option_and_then as_amount) is.says.departure_time.value

  early : if_both (option_map pos (value_in s.departure_time)) (option_map pos (value_in s.arrival_time)) int_lt ≡ leaves_early d s.row
  early = (λ i. if_both (departure i) (arrival i) int_lt)

  lone_departure : (is_blank s.arrival_time && is_some (value_in s.departure_time)) ≡ lacks_time "arrival_time" "departure_time" d s.row
  lone_departure = rw is.says.arrival_time.empty
      (ap (λ b. is_empty (stop_time_text d s.row "arrival_time") && b) (sym (some_mapped _ (value_in s.departure_time)) ∙ ap is_some is.says.departure_time.value))

  lone_arrival : (is_blank s.departure_time && is_some (value_in s.arrival_time)) ≡ lacks_time "departure_time" "arrival_time" d s.row
  lone_arrival = rw is.says.departure_time.empty
      (ap (λ b. is_empty (stop_time_text d s.row "departure_time") && b) (sym (some_mapped _ (value_in s.arrival_time)) ∙ ap is_some is.says.arrival_time.value))

  pub times_reported : (ws xs ys zs : List Problem)
      → Adds (λ p. is_same (problem_at code.E16 file.StopTimes (codes "departure_time") s.row) p
      && if_both (option_map pos (value_in s.departure_time)) (option_map pos (value_in s.arrival_time)) int_lt) ws xs
      → Adds (λ p. is_same (problem_at code.W08 file.StopTimes (codes "arrival_time") s.row) p && (is_blank s.arrival_time && is_some (value_in s.departure_time))) xs ys
      → Adds (λ p. is_same (problem_at code.W08 file.StopTimes (codes "departure_time") s.row) p && (is_blank s.departure_time && is_some (value_in s.arrival_time))) ys zs
      → ReportsOfRow d in_times s.row ws zs
  times_reported ws xs ys zs first second third =
      rows_then d s.row (at_sites code.E16 departures_in_rows) (at_sites code.W08 times_in_rows) ws xs zs
      (row_last d s.row code.E16 (codes "departure_time") ws xs (one_reported code.E16 (codes "departure_time") (leaves_early d) (early_rule d) _ early ws xs first))
      (row_first d s.row code.W08 (codes "arrival_time") ((file.StopTimes, codes "departure_time") ∷ []) xs ys zs
      (one_reported code.W08 (codes "arrival_time") (lacks_time "arrival_time" "departure_time" d) (no_arrival_rule d) _ lone_departure xs ys second)
      (row_last d s.row code.W08 (codes "departure_time") ys zs
      (one_reported code.W08 (codes "departure_time") (lacks_time "departure_time" "arrival_time" d) (no_departure_rule d) _ lone_arrival ys zs third)))

-- ---- named rows

module _ (i : FirstRows) (t : List ℕ) where
  unknown_shape : (v : Option (Bor (List ℕ))) (empty control : Bool)
      → option_map (λ t. word t.now) v ≡ (if empty then None else result_ok (shaped (not control) (Ok (word t))))
      → (is_some v && not (is_some (option_and_then (first_row_with i) (text_of v))))
      ≡ (is_some (if empty then None else result_ok (shaped (not control) (Ok (word t)))) && not (is_some (first_row_with i t)))
  unknown_shape None true control read = refl
  unknown_shape None false true read = refl
  unknown_shape None false false read = cc read
  unknown_shape (Some u) true control read = cc read
  unknown_shape (Some u) false true read = cc read
  unknown_shape (Some u) false false read = let same : u.now ≡ t = cc read in ap (λ w. not (is_some (first_row_with i w))) same

  unknown_read : (v : Option (Bor (List ℕ))) → option_map (λ t. word t.now) v ≡ readable id t
      → (is_some v && not (is_some (option_and_then (first_row_with i) (text_of v)))) ≡ is_unknown i t
  unknown_read v read = unknown_shape v (is_empty t) (has_control t) read

module _ (d : Dataset) (s : ReadStopTime) (is : IsRow d s) (r : NamedRows) (named : AreNamedRows d r) where
  abbrev stop_text : List ℕ
  stop_text = stop_time_text d s.row "stop_id"

  no_stop : (is_some (value_in s.stop_id) && not (is_some (option_and_then (first_row_with r.stops.ids.now) (text_of (value_in s.stop_id)))))
      ≡ stop_unknown d s.row
  no_stop = unknown_read r.stops.ids.now stop_text (value_in s.stop_id) is.says.stop_id.value ∙ ap (λ i. is_unknown i stop_text) named.stops

  no_trip : (is_some (value_in s.trip_id) && not (is_some (option_and_then (first_row_with r.trips.ids.now) (text_of (value_in s.trip_id)))))
      ≡ trip_unknown d s.row
  no_trip = unknown_read r.trips.ids.now (stop_time_text d s.row "trip_id") (value_in s.trip_id) is.says.trip_id.value ∙ ap (λ i. is_unknown i (stop_time_text d s.row "trip_id")) named.trips

  no_platform : if_there (option_and_then (type_of r.types.now) (option_and_then (first_row_with r.stops.ids.now) (text_of (value_in s.stop_id)))) (λ t. not (is_one_of (0 ∷ []) t))
      ≡ other_kind d r s.row
  no_platform = ap (λ o. if_there (option_and_then (type_of r.types.now) (option_and_then (first_row_with r.stops.ids.now) o)) (λ t. not (is_one_of (0 ∷ []) t)))
      (sym (worded_text (value_in s.stop_id)) ∙ ap (option_and_then as_word) is.says.stop_id.value)

  pub names_reported : (ws xs ys zs : List Problem)
      → Adds (λ p. is_same (problem_at code.E10 file.StopTimes (codes "stop_id") s.row) p
      && (is_some (value_in s.stop_id) && not (is_some (option_and_then (first_row_with r.stops.ids.now) (text_of (value_in s.stop_id)))))) ws xs
      → Adds (λ p. is_same (problem_at code.E10 file.StopTimes (codes "trip_id") s.row) p
      && (is_some (value_in s.trip_id) && not (is_some (option_and_then (first_row_with r.trips.ids.now) (text_of (value_in s.trip_id)))))) xs ys
      → Adds (λ p. is_same (problem_at code.E11 file.StopTimes (codes "stop_id") s.row) p
      && if_there (option_and_then (type_of r.types.now) (option_and_then (first_row_with r.stops.ids.now) (text_of (value_in s.stop_id)))) (λ t. not (is_one_of (0 ∷ []) t))) ys zs
      → ReportsOfRow d in_names s.row ws zs
  names_reported ws xs ys zs first second third =
      rows_then d s.row (at_sites code.E10 names_in_rows) (at_sites code.E11 stops_in_rows) ws ys zs
      (row_first d s.row code.E10 (codes "stop_id") ((file.StopTimes, codes "trip_id") ∷ []) ws xs ys
      (one_reported d s is code.E10 (codes "stop_id") (stop_unknown d) (stop_rule d) _ no_stop ws xs first)
      (row_last d s.row code.E10 (codes "trip_id") xs ys
      (one_reported d s is code.E10 (codes "trip_id") (trip_unknown d) (trip_rule d) _ no_trip xs ys second)))
      (row_last d s.row code.E11 (codes "stop_id") ys zs
      (one_reported d s is code.E11 (codes "stop_id") (other_kind d r) (kind_rule d r named) _ no_platform ys zs third))

-- The problems that the pass over stop_times.txt reports at columns are all of their codes in this file.
use Rattle.std.proofs.Common.{◌≡◌, ℕ, List, [], ◌∷◌, true, false, Bool, refl, sym, ◌∙◌, codes, inl, inr}
use Rattle.std.specs.Prelude.{◌&&◌, ◌||◌}
use Rattle.std.proofs.lemmas.Bool.{cases_Bool}
use Rattle.gtfs_table.specs.Tables.{Dataset}
use Rattle.gtfs_table.specs.declared.file.File.TheVariants as file
use Rattle.gtfs_schema.specs.declared.code.Code.{Code}
use Rattle.gtfs_schema.specs.declared.code.Code.TheVariants as code
use Rattle.gtfs_trip_rules.specs.declared.stop_times.named.NamedRows.{NamedRows}
use Rattle.gtfs_schema.specs.steps.FieldCodes.{field_codes, in_file_of}
use Rattle.gtfs_schema.specs.steps.FoundProblems.{Reports}
use Rattle.gtfs_schema.specs.steps.KeptColumns.{at_column, in_file}
use Rattle.gtfs_schema.specs.steps.SitePicks.{at_sites}
use Rattle.gtfs_schema.specs.Problems.{Problem, is_problem}
use Rattle.gtfs_table.specs.Rows.{is_row, records_in}
use Rattle.gtfs_trip_rules.specs.StopTimePicks.{departures_in_rows, in_names, in_rows, in_stop_times, in_times, names_in_rows, stops_in_rows, times_in_rows}
use Rattle.gtfs_trip_rules.specs.StopTimes.{AreNamedRows}
use Rattle.gtfs_schema.specs.TripRules.{lacks_time, leaves_early}
use Rattle.gtfs_schema.proofs.FieldRowFacts.{silent_fields}
use Rattle.gtfs_schema.proofs.RuleFacts.{silent_column}
use Rattle.gtfs_schema.proofs.ReferenceFacts.{reported_at_names}
use Rattle.gtfs_schema.proofs.StepFacts.{AtColumns, Reported, column_alike, reported_there}
use Rattle.gtfs_schema.proofs.StopTypeFacts.{reported_at_kinds}
use Rattle.gtfs_trip_rules.proofs.StopTimeFacts.{Rules, early_rule, kind_rule, no_arrival_rule, no_departure_rule, other_kind, stop_rule, stop_unknown, trip_rule, trip_unknown}
use Rattle.gtfs_schema.proofs.ReportingFacts.{reports_alike}

-- ---- the columns at which each code is reported in this file

names_here : (d : Dataset) → AtColumns d code.E10 file.StopTimes ("stop_id" ∷ "trip_id" ∷ [])
names_here d n name e = reported_at_names d file.StopTimes n name e

stops_here : (d : Dataset) → AtColumns d code.E11 file.StopTimes ("stop_id" ∷ [])
stops_here d n name e = reported_at_kinds d file.StopTimes n name e

abbrev early_rules : List Reported
early_rules = (file.StopTimes, "departure_time", leaves_early) ∷ []

departures_here : (d : Dataset) → AtColumns d code.E16 file.StopTimes ("departure_time" ∷ [])
departures_here d n name e = reported_there early_rules d file.StopTimes n name (or_none _ e)
  where
    or_none : (a : Bool) → a ≡ true → (a || false) ≡ true
    or_none true e = refl
    or_none false e = e

abbrev lone_rules : List Reported
lone_rules = (file.StopTimes, "arrival_time", lacks_time "arrival_time" "departure_time")
    ∷ (file.StopTimes, "departure_time", lacks_time "departure_time" "arrival_time")
    ∷ []

times_here : (d : Dataset) → AtColumns d code.W08 file.StopTimes ("arrival_time" ∷ "departure_time" ∷ [])
times_here d n name e = reported_there lone_rules d file.StopTimes n name e

-- ---- all of them

both_under : (a b c e h : Bool) → (a && h) ≡ (c && h) → (b && h) ≡ (e && h) → ((a || b) && h) ≡ ((c || e) && h)
both_under a b c e h first second = sym (apart a b h) ∙ (λ i. first i || second i) ∙ apart c e h
  where
    apart : (a b h : Bool) → ((a && h) || (b && h)) ≡ ((a || b) && h)
    apart true b true = refl
    apart true true false = refl
    apart true false false = refl
    apart false b h = refl

module _ (d : Dataset) where
  names_alike : (p : Problem) → (in_names p && is_problem d p) ≡ ((in_file code.E10 file.StopTimes p || in_file code.E11 file.StopTimes p) && is_problem d p)
  names_alike p = both_under _ _ _ _ (is_problem d p)
      (column_alike d code.E10 file.StopTimes ("stop_id" ∷ "trip_id" ∷ []) (names_here d) p)
      (column_alike d code.E11 file.StopTimes ("stop_id" ∷ []) (stops_here d) p)

  times_alike : (p : Problem) → (in_times p && is_problem d p) ≡ ((in_file code.E16 file.StopTimes p || in_file code.W08 file.StopTimes p) && is_problem d p)
  times_alike p = both_under _ _ _ _ (is_problem d p)
      (column_alike d code.E16 file.StopTimes ("departure_time" ∷ []) (departures_here d) p)
      (column_alike d code.W08 file.StopTimes ("arrival_time" ∷ "departure_time" ∷ []) (times_here d) p)

  rows_alike : (p : Problem) → (in_rows p && is_problem d p) ≡ (in_stop_times p && is_problem d p)
  rows_alike p = both_under _ _ _ _ (is_problem d p) (both_under _ _ _ _ (is_problem d p) refl (names_alike p)) (times_alike p)

  pub rows_reported : (old new : List Problem) → Reports d in_rows old new → Reports d in_stop_times old new
  rows_reported old new = reports_alike d in_rows in_stop_times old new rows_alike

-- ---- a record that is no row has none of these problems

abbrev pub Silent : Dataset → (Problem → Bool) → Type 0
Silent d picks = (p : Problem) → picks p ≡ true → is_row (records_in d file.StopTimes) p.row ≡ false → is_problem d p ≡ false

silent_or : (d : Dataset) (a b : Problem → Bool) → Silent d a → Silent d b → Silent d (λ p. a p || b p)
silent_or d a b first second p picked none = elim (cases_Bool (a p)) [
  | inl here ↦ first p here none
  | inr other ↦ second p (rw other at picked) none
]

silent_none : (d : Dataset) → Silent d (λ p. false)
silent_none d p picked none = cc picked

pub silent_rows : (d : Dataset) (r : NamedRows) → AreNamedRows d r → Silent d in_rows
silent_rows d r named =
    let at : (c : Code) (name : List ℕ) (breaks : ℕ → Bool) → Rules d c name breaks → Silent d (at_column c file.StopTimes name) = λ c name breaks rule.
    silent_column d c file.StopTimes name breaks rule in
    silent_or d (λ p. in_file_of field_codes file.StopTimes p || in_names p) in_times
    (silent_or d (in_file_of field_codes file.StopTimes) in_names (silent_fields d file.StopTimes)
    (silent_or d (at_sites code.E10 names_in_rows) (at_sites code.E11 stops_in_rows)
    (silent_or d _ _ (at code.E10 (codes "stop_id") (stop_unknown d) (stop_rule d))
    (silent_or d _ _ (at code.E10 (codes "trip_id") (trip_unknown d) (trip_rule d)) (silent_none d)))
    (silent_or d _ _ (at code.E11 (codes "stop_id") (other_kind d r) (kind_rule d r named)) (silent_none d))))
    (silent_or d (at_sites code.E16 departures_in_rows) (at_sites code.W08 times_in_rows)
    (silent_or d _ _ (at code.E16 (codes "departure_time") (leaves_early d) (early_rule d)) (silent_none d))
    (silent_or d _ _ (at code.W08 (codes "arrival_time") (lacks_time "arrival_time" "departure_time" d) (no_arrival_rule d))
    (silent_or d _ _ (at code.W08 (codes "departure_time") (lacks_time "departure_time" "arrival_time" d) (no_departure_rule d)) (silent_none d))))

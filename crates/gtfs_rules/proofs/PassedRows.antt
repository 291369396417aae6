-- A stop time that was kept of a dataset that passes says what its row says.
use Rattle.std.proofs.Common.{◌≡◌, ℕ, List, [], ◌∷◌, true, false, Bool, refl, sym, ap, ◌∙◌, codes, Option, Some, None}
use Rattle.std.specs.Prelude.{◌&&◌, ◌||◌, not, is_some, slice_get, option_and_then, ℤ}
use Rattle.gtfs_table.specs.Tables.{Dataset}
use Rattle.gtfs_table.specs.Rows.{is_row, records_in}
use Rattle.gtfs_table.specs.declared.file.File.TheVariants as file
use Rattle.gtfs_schema.specs.declared.code.Code.TheVariants as code
use Rattle.gtfs_schema.specs.Columns.{count, defaulting, id, means, nothing, optional, refused, required, up_to}
use Rattle.gtfs_schema.specs.IdNumbers.{number_of_id}
use Rattle.gtfs_schema.specs.Problems.{Passes, kept}
use Rattle.gtfs_schema.specs.ReadRules.{StandsAs}
use Rattle.gtfs_schema.specs.ReadFields.{amount_of, choice_of, word_of}
use Rattle.gtfs_schema.specs.RowConditions.{row_with}
use Rattle.gtfs_schema.specs.FieldValues.{meaning, readable}
use Rattle.gtfs_schema.specs.steps.Ids.{FirstRows, first_row_with, first_rows, ids_of, number_with}
use Rattle.gtfs_stop_times.specs.declared.stop_time.StopTime.{StopTime}
use Rattle.gtfs_trip_rules.specs.KeptRows.{Keeps}
use Rattle.gtfs_trip_rules.specs.StopTimes.{stop_time_text}
use Rattle.gtfs_rules.specs.StopTimes.{SaysStopTime}
use Rattle.gtfs_schema.proofs.IdFacts.{first_row_is}
use Rattle.gtfs_schema.proofs.IdNumberFacts.{id_of_number, number_there}
use Rattle.gtfs_schema.proofs.ReadFacts.{amount_some, id_there, read_as_there, read_stands, stands}

-- ---- numbers of ids

-- a number that is that of an id, which a row has
named_id : (i : FirstRows) (t : List ℕ) (r : ℕ) → is_some (first_row_with i t) ≡ true → ((m : ℕ) → number_with i t ≡ Some m → r ≡ m) → slice_get (ids_of i) r ≡ Some t
named_id i t r there is = from (number_with i t) refl (number_there i t there)
  where
    from : (o : Option ℕ) → number_with i t ≡ o → is_some o ≡ true → slice_get (ids_of i) r ≡ Some t
    from None e has = cc has
    from (Some m) e has = ap (slice_get (ids_of i)) (is m e) ∙ id_of_number i t m e

-- what is there and is said of each that is there
said : (o : Option ℤ) (y : ℤ) → is_some o ≡ true → ((x : ℤ) → o ≡ Some x → y ≡ x) → Some y ≡ o
said None y has is = cc has
said (Some x) y has is = ap Some (is x refl)

known_there : (row there known : Bool) → row ≡ true → there ≡ true → ((row && there) && (not (known || false) || false)) ≡ false → known ≡ true
known_there true true true e f none = refl
known_there true true false e f none = sym none
known_there true false known e f none = cc f
known_there false there known e f none = cc e

word_there : (o : Option (List ℕ)) (t : List ℕ) → o ≡ Some t → is_some o ≡ true
word_there o t e = ap is_some e

-- ---- a row of a dataset that passes

module _ (d : Dataset) (passes : Passes d) (n : ℕ) (row : is_row (records_in d file.StopTimes) n ≡ true) where
  trip_stands : StandsAs id refused (stop_time_text d n "trip_id")
  trip_stands = stands d passes file.StopTimes n row (codes "trip_id") (required "trip_id" id) refl _ refl

  stop_stands : StandsAs id refused (stop_time_text d n "stop_id")
  stop_stands = stands d passes file.StopTimes n row (codes "stop_id") (required "stop_id" id) refl _ refl

  sequence_stands : StandsAs count refused (stop_time_text d n "stop_sequence")
  sequence_stands = stands d passes file.StopTimes n row (codes "stop_sequence") (required "stop_sequence" count) refl _ refl

  pickup_stands : StandsAs (up_to 3) (means (codes "0")) (stop_time_text d n "pickup_type")
  pickup_stands = stands d passes file.StopTimes n row (codes "pickup_type") (defaulting "pickup_type" (up_to 3) "0") refl _ refl

  drop_off_stands : StandsAs (up_to 3) (means (codes "0")) (stop_time_text d n "drop_off_type")
  drop_off_stands = stands d passes file.StopTimes n row (codes "drop_off_type") (defaulting "drop_off_type" (up_to 3) "0") refl _ refl

  timepoint_stands : StandsAs (up_to 1) nothing (stop_time_text d n "timepoint")
  timepoint_stands = stands d passes file.StopTimes n row (codes "timepoint") (optional "timepoint" (up_to 1)) refl _ refl

  pub trip_is : word_of id (stop_time_text d n "trip_id") ≡ Some (stop_time_text d n "trip_id")
  trip_is = id_there (stop_time_text d n "trip_id") trip_stands

  pub stop_is : word_of id (stop_time_text d n "stop_id") ≡ Some (stop_time_text d n "stop_id")
  stop_is = id_there (stop_time_text d n "stop_id") stop_stands

  pub sequence_there : is_some (amount_of count (stop_time_text d n "stop_sequence")) ≡ true
  sequence_there = amount_some count refl (stop_time_text d n "stop_sequence") ∙ read_as_there count _ (stop_time_text d n "stop_sequence") sequence_stands refl

  choice_there : (t : List ℕ) → StandsAs (up_to 3) (means (codes "0")) t → is_some (choice_of ((0, 3) ∷ []) (codes "0") t) ≡ true
  choice_there t s = amount_some (up_to 3) refl (meaning (means (codes "0")) t) ∙ read_as_there (up_to 3) (means (codes "0")) t s refl

  trip_known : is_some (first_row_with (first_rows d file.Trips (codes "trip_id")) (stop_time_text d n "trip_id")) ≡ true
  trip_known = ap is_some (first_row_is d file.Trips (codes "trip_id") (stop_time_text d n "trip_id")) ∙ known_there (is_row (records_in d file.StopTimes) n) (is_some (readable id (stop_time_text d n "trip_id"))) (is_some (row_with d file.Trips (codes "trip_id") (stop_time_text d n "trip_id")))
      row (read_as_there id _ (stop_time_text d n "trip_id") trip_stands refl)
      (passes (record { file = kept file.StopTimes; row = n; code = code.E10; column = codes "trip_id" }) refl)

  stop_known : is_some (first_row_with (first_rows d file.Stops (codes "stop_id")) (stop_time_text d n "stop_id")) ≡ true
  stop_known = ap is_some (first_row_is d file.Stops (codes "stop_id") (stop_time_text d n "stop_id")) ∙ known_there (is_row (records_in d file.StopTimes) n) (is_some (readable id (stop_time_text d n "stop_id"))) (is_some (row_with d file.Stops (codes "stop_id") (stop_time_text d n "stop_id")))
      row (read_as_there id _ (stop_time_text d n "stop_id") stop_stands refl)
      (passes (record { file = kept file.StopTimes; row = n; code = code.E10; column = codes "stop_id" }) refl)

-- ---- a stop time

pub says : (d : Dataset) → Passes d → (s : StopTime) → is_row (records_in d file.StopTimes) s.row ≡ true → Keeps d s → SaysStopTime d s
says d passes s row keeps = record {
  row = row;
  trip = named_id (first_rows d file.Trips (codes "trip_id")) (stop_time_text d s.row "trip_id") s.trip (trip_known d passes s.row row)
      (λ m e. keeps.trip m (ap (option_and_then (number_of_id d file.Trips (codes "trip_id"))) (trip_is d passes s.row row) ∙ e))
      ∙ sym (trip_is d passes s.row row);
  stop = named_id (first_rows d file.Stops (codes "stop_id")) (stop_time_text d s.row "stop_id") s.stop_row.stop_id.0 (stop_known d passes s.row row)
      (λ m e. keeps.rest.stop m (ap (option_and_then (number_of_id d file.Stops (codes "stop_id"))) (stop_is d passes s.row row) ∙ e))
      ∙ sym (stop_is d passes s.row row);
  arrival_time = keeps.rest.arrival;
  departure_time = keeps.rest.departure;
  stop_sequence = said _ _ (sequence_there d passes s.row row) keeps.rest.sequence;
  pickup_type = said _ _ (choice_there d passes s.row row (stop_time_text d s.row "pickup_type") (pickup_stands d passes s.row row)) keeps.rest.pickup_type;
  drop_off_type = said _ _ (choice_there d passes s.row row (stop_time_text d s.row "drop_off_type") (drop_off_stands d passes s.row row)) keeps.rest.drop_off_type;
  has_headsign = keeps.rest.headsign;
  timepoint = keeps.rest.timepoint (read_stands (up_to 1) nothing (stop_time_text d s.row "timepoint") (timepoint_stands d passes s.row row));
}

-- A row of stop_times.txt as it is kept says what its texts say.
use Rattle.std.proofs.Common.{◌≡◌, ℕ, List, [], ◌∷◌, true, false, Bool, refl, sym, ap, ◌∙◌, subst, codes, Bor, Option, Some, None, option_map}
use Rattle.std.specs.Prelude.{◌&&◌, ◌||◌, not, if◌then◌else◌, is_some, option_and_then, ℤ, pos}
use Rattle.std.specs.Option.{option_or, unwrap_or}
use Rattle.gtfs_table.specs.Tables.{Dataset}
use Rattle.gtfs_table.specs.Rows.{is_empty}
use Rattle.gtfs_table.specs.declared.file.File.TheVariants as file
use Rattle.gtfs_schema.specs.Columns.{count, id, up_to}
use Rattle.gtfs_schema.specs.IdNumbers.{number_of_id}
use Rattle.gtfs_schema.specs.ReadRules.{IsReadAs}
use Rattle.gtfs_schema.specs.ReadFields.{amount_of, choice_of, word_of}
use Rattle.gtfs_schema.specs.FieldValues.{Value, amount, as_amount, as_word}
use Rattle.gtfs_trip_rules.specs.declared.stop_times.columns.ReadStopTime.{ReadStopTime}
use Rattle.gtfs_trip_rules.specs.declared.stop_times.named.NamedIds.{NamedIds}
use Rattle.gtfs_trip_rules.specs.declared.stop_times.reading.Reading.{Reading}
use Rattle.gtfs_trip_rules.specs.declared.stop_times.reading.Reading.TheVariants as reading
use Rattle.gtfs_stop_times.specs.declared.stop_time_choices.Timepoint.{Timepoint}
use Rattle.gtfs_stop_times.specs.declared.stop_time_choices.DropOffType.TheVariants as drop_off
use Rattle.gtfs_stop_times.specs.declared.stop_time_choices.PickupType.TheVariants as pickup
use Rattle.gtfs_stop_times.specs.declared.stop_time.ReadTimes.{ReadTimes}
use Rattle.gtfs_trip_rules.specs.KeptRows.{Keeps, KeepsRow, named_stop_number}
use Rattle.gtfs_stop_times.specs.StopTimeChoices.{drop_off_code, pickup_code, timepoint_code}
use Rattle.gtfs_trip_rules.specs.KeptRow.{kept_row, times_of}
use Rattle.gtfs_stop_times.specs.KeptTimes.{with_trip, are_clear, is_placed}
use Rattle.gtfs_trip_rules.specs.StopTimeFields.{is_blank, is_fault, text_of, value_in}
use Rattle.gtfs_trip_rules.specs.StopTimes.{stop_time_text, AreNumbersOf, IsReading, IsStopTime}
use Rattle.gtfs_trip_rules.specs.TripNotes.{trip_note}
use Rattle.gtfs_trip_rules.specs.TripStopTimes.{TripStopTime}
use Rattle.gtfs_trip_rules.specs.TripTexts.{note_of_values, note_read, time_of_texts}
use Rattle.gtfs_trip_rules.proofs.StopTimeFacts.{counted_text, worded_text}

-- ---- the two times

abbrev as_value : ℕ → Value
as_value x = amount (pos x)

abbrev value_of : Reading ℕ → Option Value
value_of r = option_map as_value (value_in r)

-- a time that is there, or an empty one
abbrev clear : Option Value → Bool → Bool
clear v empty = is_some v || empty

-- one time and else the other, where neither is unclear
abbrev either : Option Value → Bool → Option Value → Bool → Option ℤ
either v empty w none = if clear v empty && clear w none then option_or (option_and_then as_amount v) (option_and_then as_amount w) else None

-- how the times of a row with a sequence stand
abbrev times_read : Reading ℕ → Reading ℕ → ReadTimes
times_read a b = times_of true (is_fault a || is_fault b)

reached : (a b : Reading ℕ) → option_map pos (if are_clear (times_read a b) then option_or (value_in a) (value_in b) else None) ≡ either (value_of a) (is_blank a) (value_of b) (is_blank b)
reached (reading.Value x) (reading.Value y) = refl
reached (reading.Value x) reading.Empty = refl
reached (reading.Value x) (reading.Fault c) = refl
reached reading.Empty (reading.Value y) = refl
reached reading.Empty reading.Empty = refl
reached reading.Empty (reading.Fault c) = refl
reached (reading.Fault c) (reading.Value y) = refl
reached (reading.Fault c) reading.Empty = refl
reached (reading.Fault c) (reading.Fault e) = refl

left : (a b : Reading ℕ) → option_map pos (if are_clear (times_read a b) then option_or (value_in b) (value_in a) else None) ≡ either (value_of b) (is_blank b) (value_of a) (is_blank a)
left (reading.Value x) (reading.Value y) = refl
left (reading.Value x) reading.Empty = refl
left (reading.Value x) (reading.Fault c) = refl
left reading.Empty (reading.Value y) = refl
left reading.Empty reading.Empty = refl
left reading.Empty (reading.Fault c) = refl
left (reading.Fault c) (reading.Value y) = refl
left (reading.Fault c) reading.Empty = refl
left (reading.Fault c) (reading.Fault e) = refl

untimed : (a b : Reading ℕ) → (are_clear (times_read a b) && (not (is_some (value_in a)) && not (is_some (value_in b)))) ≡ (is_blank a && is_blank b)
untimed (reading.Value x) (reading.Value y) = refl
untimed (reading.Value x) reading.Empty = refl
untimed (reading.Value x) (reading.Fault c) = refl
untimed reading.Empty (reading.Value y) = refl
untimed reading.Empty reading.Empty = refl
untimed reading.Empty (reading.Fault c) = refl
untimed (reading.Fault c) (reading.Value y) = refl
untimed (reading.Fault c) reading.Empty = refl
untimed (reading.Fault c) (reading.Fault e) = refl

-- ---- choices

chosen : {V : Type 0} (code : V → ℕ) (regular : V) → code regular ≡ 0 → (t : List ℕ) (r : Reading V) → IsReading (up_to 3) (λ b. amount (pos (code b))) t r
    → (x : ℤ) → choice_of ((0, 3) ∷ []) (codes "0") t ≡ Some x → pos (code (unwrap_or (value_in r) regular)) ≡ x
chosen code regular is t reading.Empty read x e =
    let zero : choice_of ((0, 3) ∷ []) (codes "0") t ≡ Some (pos 0) = ap (λ b. amount_of (up_to 3) (if b then codes "0" else t)) (sym read.empty) in
    ap pos is ∙ ap (λ o. unwrap_or o x) (sym zero ∙ e)
chosen code regular is t (reading.Fault c) read x e =
    let none : choice_of ((0, 3) ∷ []) (codes "0") t ≡ None = ap (λ b. amount_of (up_to 3) (if b then codes "0" else t)) (sym read.empty) ∙ ap (option_and_then as_amount) (sym read.value) in
    cc (sym none ∙ e)
chosen code regular is t (reading.Value b) read x e =
    let some : choice_of ((0, 3) ∷ []) (codes "0") t ≡ Some (pos (code b)) =
    ap (λ b. amount_of (up_to 3) (if b then codes "0" else t)) (sym read.empty) ∙ ap (option_and_then as_amount) (sym read.value) in
    ap (λ o. unwrap_or o x) (sym some ∙ e)

exactness : (t : List ℕ) (r : Reading Timepoint) → IsReading (up_to 1) (λ e. amount (pos (timepoint_code e))) t r → IsReadAs (up_to 1) t
    → option_map pos (option_map timepoint_code (value_in r)) ≡ amount_of (up_to 1) t
exactness t reading.Empty read whole = ap (option_and_then as_amount) read.value
exactness t (reading.Fault c) read whole =
    let clash : false ≡ true = ap is_some read.value ∙ whole ∙ ap not (sym read.empty) in cc clash
exactness t (reading.Value e) read whole = ap (option_and_then as_amount) read.value

-- ---- a row

-- a row whose times stand so
abbrev row_of : ReadTimes → Option ℕ → Option ℕ → ℕ → List ℕ → ℤ → TripStopTime
row_of w a b row trip x = record {
  trip_id = trip;
  sequence = x;
  row = row;
  arrival = option_map pos (if are_clear w then option_or a b else None);
  departure = option_map pos (if are_clear w then option_or b a else None);
  is_untimed = are_clear w && (not (is_some a) && not (is_some b));
}

abbrev said_if : Bool → TripStopTime → Option TripStopTime
said_if placed row = if placed then Some row else None

-- what is said of a row that has this sequence, or none
said_of : (sequence : Option ℕ) (fault : Bool) (a b : Option ℕ) (row : ℕ) (trip : List ℕ)
    → said_if (is_placed (times_of (is_some sequence) fault)) (row_of (times_of (is_some sequence) fault) a b row trip (pos (unwrap_or sequence 0)))
    ≡ option_map (row_of (times_of true fault) a b row trip) (option_map pos sequence)
said_of None fault a b row trip = refl
said_of (Some x) true a b row trip = refl
said_of (Some x) false a b row trip = refl

sequence_is : (v : Option ℕ) (x : ℤ) → option_map pos v ≡ Some x → pos (unwrap_or v 0) ≡ x
sequence_is None x e = cc e
sequence_is (Some n) x e = ap (λ o. unwrap_or o x) e

module _ (d : Dataset) (n : ℕ) (s : ReadStopTime) (is : IsStopTime d n s) where
  abbrev arrival_text : List ℕ
  arrival_text = stop_time_text d n "arrival_time"

  abbrev departure_text : List ℕ
  departure_text = stop_time_text d n "departure_time"

  trip_read : text_of (value_in s.trip_id) ≡ word_of id (stop_time_text d n "trip_id")
  trip_read = sym (worded_text (value_in s.trip_id)) ∙ ap (option_and_then as_word) is.trip_id.value

  stop_read : text_of (value_in s.stop_id) ≡ word_of id (stop_time_text d n "stop_id")
  stop_read = sym (worded_text (value_in s.stop_id)) ∙ ap (option_and_then as_word) is.stop_id.value

  sequence_read : option_map pos (value_in s.stop_sequence) ≡ amount_of count (stop_time_text d n "stop_sequence")
  sequence_read = sym (counted_text (value_in s.stop_sequence)) ∙ ap (option_and_then as_amount) is.stop_sequence.value

  module _ (stop : Option ℕ) where
    reached_at : option_map pos (if are_clear (times_read s.arrival_time s.departure_time) then option_or (value_in s.arrival_time) (value_in s.departure_time) else None) ≡ time_of_texts arrival_text departure_text
    reached_at = reached s.arrival_time s.departure_time
        ∙ (λ i. either (is.arrival_time.value i) (is.arrival_time.empty i) (is.departure_time.value i) (is.departure_time.empty i))

    left_at : option_map pos (if are_clear (times_read s.arrival_time s.departure_time) then option_or (value_in s.departure_time) (value_in s.arrival_time) else None) ≡ time_of_texts departure_text arrival_text
    left_at = left s.arrival_time s.departure_time
        ∙ (λ i. either (is.departure_time.value i) (is.departure_time.empty i) (is.arrival_time.value i) (is.arrival_time.empty i))

    untimed_at : (are_clear (times_read s.arrival_time s.departure_time) && (not (is_some (value_in s.arrival_time)) && not (is_some (value_in s.departure_time)))) ≡ (is_empty arrival_text && is_empty departure_text)
    untimed_at = untimed s.arrival_time s.departure_time ∙ (λ i. is.arrival_time.empty i && is.departure_time.empty i)

    -- what the row says of its trip
    note_is : (trip : Option (Bor (List ℕ))) → option_map (λ t. trip_note t.now (kept_row s stop)) trip
        ≡ note_of_values (text_of trip) (amount_of count (stop_time_text d n "stop_sequence")) arrival_text departure_text n
    note_is None = refl
    note_is (Some t) = λ i. Some (record {
      trip_id = t.now;
      row = (said_of (value_in s.stop_sequence) (is_fault s.arrival_time || is_fault s.departure_time) (value_in s.arrival_time) (value_in s.departure_time) s.row t.now
          ∙ (λ j. option_map (λ x. record {
            trip_id = t.now;
            sequence = x;
            row = is.row j;
            arrival = reached_at j;
            departure = left_at j;
            is_untimed = untimed_at j;
          }) (sequence_read j))) i;
    })

    pub note_said : option_map (λ t. trip_note t.now (kept_row s stop)) (value_in s.trip_id) ≡ note_read d n
    note_said = note_is (value_in s.trip_id)
        ∙ ap (λ t. note_of_values t (amount_of count (stop_time_text d n "stop_sequence")) arrival_text departure_text n) trip_read

    module _ (names : NamedIds) (are : AreNumbersOf d s names) (same : names.stop.number ≡ stop) (t : ℕ) where
      -- the number of the row's stop
      stop_is : (m : ℕ) → named_stop_number d (stop_time_text d n "stop_id") ≡ Some m → unwrap_or stop 0 ≡ m
      stop_is m e =
          ap (λ o. unwrap_or o 0) (sym same ∙ are.stop ∙ ap (option_and_then (number_of_id d file.Stops (codes "stop_id"))) stop_read ∙ e)

      pub keeps_row : KeepsRow d n (with_trip (kept_row s stop) t)
      keeps_row = record {
        row = is.row;
        stop = stop_is;
        sequence = λ x e. sequence_is (value_in s.stop_sequence) x (sequence_read ∙ e);
        arrival = sym (counted_text (value_in s.arrival_time)) ∙ ap (option_and_then as_amount) is.arrival_time.value;
        departure = sym (counted_text (value_in s.departure_time)) ∙ ap (option_and_then as_amount) is.departure_time.value;
        pickup_type = chosen pickup_code pickup.Regular refl (stop_time_text d n "pickup_type") s.pickup_type is.pickup_type;
        drop_off_type = chosen drop_off_code drop_off.Regular refl (stop_time_text d n "drop_off_type") s.drop_off_type is.drop_off_type;
        headsign = is.has_headsign;
        timepoint = exactness (stop_time_text d n "timepoint") s.timepoint is.timepoint;
      }

      -- .. with the number of its trip
      pub keeps : ((m : ℕ) → names.trip.number ≡ Some m → t ≡ m) → Keeps d (with_trip (kept_row s stop) t)
      keeps known = record {
        rest = subst (λ k. KeepsRow d k (with_trip (kept_row s stop) t)) (sym is.row) keeps_row;
        trip = λ m e. known m (are.trip ∙ ap (option_and_then (number_of_id d file.Trips (codes "trip_id"))) (trip_read ∙ ap (λ k. word_of id (stop_time_text d k "trip_id")) (sym is.row)) ∙ e);
      }

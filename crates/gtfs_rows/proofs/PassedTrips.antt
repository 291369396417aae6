-- The trips of a dataset that passes: E10, E11 and E15, and what holds of their stop times and periods.
use Rattle.std.proofs.Common.{◌≡◌, ◌∙◌, ℕ, List, [], ◌∷◌, map, true, false, Bool, Option, Some, None, refl, sym, ap, subst, inl, inr, arith}
use Rattle.std.specs.Prelude.{◌||◌, not, codes, nat_lt, nat_le, is_some}
use Prim.Native.String.{String as Literal}
use Rattle.std.specs.Cmp.{nat_cmp_total}
use Rattle.std.specs.Cmp.Lexicographic.{nat_list_cmp_total}
use Rattle.std.specs.FinMap.{nat_cmp-IsAntisymmetric}
use Rattle.std.specs.List.{Contains, list_all}
use Rattle.std.specs.Option.{option_or}
use Rattle.std.specs.Ordering.{nat_cmp}
use Rattle.std.proofs.lemmas.Bool.{and_from, or_left, or_right, or_from, or_parts, cases_Bool, ltb-true, not_from_false, not-false as not_false}
use Rattle.std.proofs.lemmas.Bool.Decides.{nat_tests}
use Rattle.std.proofs.lemmas.List.Folds.{list_all_at}
use Rattle.gtfs_field.specs.TextOrder.{text_cmp}
use Rattle.gtfs_table.specs.Rows.{is_row, records_in, rows}
use Rattle.gtfs_table.specs.Tables.{Dataset}
use Rattle.gtfs_table.specs.declared.file.File.TheVariants as file
use Rattle.gtfs_schema.specs.declared.code.Code.TheVariants as code
use Rattle.gtfs_schema.specs.Columns.{id, time, column_named, required, optional}
use Rattle.gtfs_schema.specs.Problems.{Passes}
use Rattle.gtfs_schema.specs.RowConditions.{text_in, value_in, word_in, amount_in, is_empty_in, row_with}
use Rattle.gtfs_schema.specs.StopRules.{names_none_of}
use Rattle.gtfs_schema.specs.TripRules.{rows_of_trip, stands_before, is_less, is_earlier_equal, is_first_row, is_last_row, is_end_untimed}
use Rattle.gtfs_schema.specs.FieldValues.{if_there, is_word}
use Rattle.gtfs_schema.proofs.SiteFacts.{text_itself}
use Rattle.gtfs_rows.specs.TransferOrder.{by_key}
use Rattle.gtfs_rows.specs.ContentRead.{text_at, number_in, number_at, stop_row_in, rows_of, trip_in, content_of}
use Rattle.gtfs_rows.specs.Rows.{StopRow}
use Rattle.gtfs_rows.specs.SoundContent.{has_id, is_stop_of, leaves, keeps_time, is_end, is_sound_in, is_sound_trip}
use Rattle.gtfs_rows.proofs.ContentRows.{row_of, all_made, NamesTrip, stop_row_made}
use Rattle.gtfs_rows.proofs.KeyedRows.{all_from, stays}
use Rattle.gtfs_rows.proofs.PassedPeriods.{periods_sound}
use Rattle.gtfs_rows.proofs.PassedReferences.{after, after_one, one_known, no_error, none_unknown, route_known, service_known}
use Rattle.gtfs_rows.proofs.PassedStops.{named_stop}
use Rattle.gtfs_rows.proofs.PassedStopTimes.{some_passes, some_mapped, sequence_is, not_early, of_trip, before_is, after_is, times_kept}
use Rattle.gtfs_rows.proofs.KindOptions.{value_of_word}
use Rattle.gtfs_rows.proofs.PassedValues.{word_is, required_id, number_if_there, amount_if_filled}
use Rattle.gtfs_rows.proofs.SameElements.{contains-map, contains-filter}

-- ---- tests

not_all : {X : Type 0} (p : X → Bool) (xs : List X) (x : X) → Contains xs x → p x ≡ false → list_all p xs ≡ false
not_all p xs x at fails = list_all_at p xs at.0 x at.1 (ap p at.2 ∙ fails)

two_known : (a b : Bool) → (not (a || (b || false)) || false) ≡ false → (a || b) ≡ true
two_known true b e = refl
two_known false true e = refl
two_known false false e = cc

empty_from : (some empty : Bool) → some ≡ not empty → some ≡ false → empty ≡ true
empty_from some true e none = refl
empty_from some false e none = cc

none_of_two : (a b : Option ℕ) → is_some (option_or a b) ≡ false → (is_some a ≡ false) × (is_some b ≡ false)
none_of_two None None e = (refl, refl)
none_of_two None (Some n) e = cc
none_of_two (Some m) b e = cc

above : (a b : ℕ) → nat_lt b a ≡ true → nat_le a b ≡ false
above a b h = let below = ltb-true b a h in grind (arith, nat_tests, below)

-- ---- the stop rows of a trip

module _ (d : Dataset) (passes : Passes d) (q : List ℕ) where
  abbrev stop_rows : List StopRow
  stop_rows = by_key nat_cmp (λ (r : StopRow). r.stop_sequence) (map (stop_row_in d) (rows_of d file.StopTimes q))

  -- a stop row of the trip with the sequence of a row
  record HasSequence (m : ℕ) : Type 0 where
    row : StopRow
    among : Contains (by_key nat_cmp (λ (r : StopRow). r.stop_sequence) (map (stop_row_in d) (rows_of d file.StopTimes q))) row
    same : number_at d file.StopTimes m "stop_sequence" ≡ row.stop_sequence

  has_sequence : (m : ℕ) → NamesTrip d file.StopTimes q m → HasSequence m
  has_sequence m is =
      let at = contains-filter (λ k. is_word (word_in d file.StopTimes k "trip_id") q) (rows d file.StopTimes) m (ap (λ o. is_word o q) is.named ∙ text_itself q) is.among in
      let s = stays nat_cmp nat_cmp_total (λ (r : StopRow). r.stop_sequence) (map (stop_row_in d) (rows_of d file.StopTimes q)) (stop_row_in d m) (contains-map (stop_row_in d) (rows_of d file.StopTimes q) m at) in
      record { row = s.row; among = s.among; same = nat_cmp-IsAntisymmetric (number_at d file.StopTimes m "stop_sequence") s.row.stop_sequence s.tied }

  module _ (m : ℕ) (is : NamesTrip d file.StopTimes q m) where
    abbrev own : ℕ
    own = number_at d file.StopTimes m "stop_sequence"

    empty_time : (name : Literal) → column_named file.StopTimes (codes name) ≡ Some (optional name time) → is_some (number_in d file.StopTimes m name) ≡ false → is_empty_in d file.StopTimes m name ≡ true
    empty_time name there none =
        empty_from (is_some (amount_in d file.StopTimes m name)) (is_empty_in d file.StopTimes m name) (amount_if_filled d passes file.StopTimes m is.row name time there refl)
        (ap (λ o. is_some o) (number_if_there d passes file.StopTimes m is.row name time there refl) ∙ some_mapped (number_in d file.StopTimes m name) ∙ none)

    -- E15
    inner : is_some (leaves (stop_row_in d m)) ≡ false → (is_first_row d q m || is_last_row d q m) ≡ false
    inner none =
        let times = none_of_two (number_in d file.StopTimes m "departure_time") (number_in d file.StopTimes m "arrival_time") none in
        let told : is_end_untimed d m ≡ false = after (is_row (records_in d file.StopTimes) m) (is_end_untimed d m) is.row (no_error d passes code.E15 file.StopTimes m (codes "arrival_time") refl) in
        let empty = and_from _ _ (and_from _ _ (empty_time "arrival_time" refl times.1) (empty_time "departure_time" refl times.0)) (ap (λ o. is_some o) (sequence_is d passes m is.row)) in
        sym (ap (λ o. if_there o (λ trip. is_first_row d trip m || is_last_row d trip m)) is.named) ∙ after _ _ empty told

    not_end : is_some (leaves (stop_row_in d m)) ≡ false → is_end stop_rows (stop_row_in d m) ≡ false
    not_end none =
        let ends = or_parts (is_first_row d q m) (is_last_row d q m) (inner none) in
        let before = some_passes (λ k. stands_before d k m) (rows_of_trip d q) (not_false _ ends.0) in
        let later = some_passes (λ k. is_less d m k || is_earlier_equal d k m) (rows_of_trip d q) (not_false _ ends.1) in
        let first = of_trip d passes q before.element before.among in
        let last = of_trip d passes q later.element later.among in
        let low = has_sequence before.element first in
        let high = has_sequence later.element last in
        let below = before_is d passes q before.element m first is before.passes in
        let beyond = after_is d passes q m later.element is last later.passes in
        or_from _ _
        (not_all (λ (s : StopRow). nat_le own s.stop_sequence) stop_rows low.row low.among (above own low.row.stop_sequence (ap (λ k. nat_lt k own) (sym low.same) ∙ below)))
        (not_all (λ (s : StopRow). nat_le s.stop_sequence own) stop_rows high.row high.among (above high.row.stop_sequence own (ap (λ k. nat_lt own k) (sym high.same) ∙ beyond)))

    -- E10 and E11
    right_stop : is_stop_of (content_of d) (0 ∷ []) (text_at d file.StopTimes m "stop_id") ≡ true
    right_stop =
        let t = text_at d file.StopTimes m "stop_id" in
        let there = word_is d passes file.StopTimes m is.row "stop_id" id refl refl in
        named_stop d passes (0 ∷ []) file.StopTimes m "stop_id" t there (required_id d passes file.StopTimes m is.row "stop_id" refl)
        (one_known (is_some (row_with d file.Stops (codes "stop_id") (text_in d file.StopTimes m (codes "stop_id")))) (none_unknown d passes file.StopTimes m (codes "stop_id") is.row (value_of_word (value_in d file.StopTimes m (codes "stop_id")) t there)))
        (after_one (is_row (records_in d file.StopTimes) m) (names_none_of (0 ∷ []) file.StopTimes "stop_id" d m) is.row (no_error d passes code.E11 file.StopTimes m (codes "stop_id") refl))

    stop_row_sound : is_sound_in (content_of d) stop_rows (stop_row_in d m) ≡ true
    stop_row_sound =
        and_from _ _
        (and_from _ _
        (and_from _ _ right_stop (not_from_false _ (not_early d passes m is.row)))
        (elim (cases_Bool (is_some (leaves (stop_row_in d m)))) [
          | inl timed ↦ or_left _ _ timed
          | inr none ↦ or_right _ _ (not_from_false _ (not_end none))
        ]))
        (all_from (keeps_time (stop_row_in d m)) stop_rows (λ r at.
        let n = stop_row_made d q r at in
        subst (λ (s : StopRow). keeps_time (stop_row_in d m) s ≡ true) n.same (times_kept d passes q m n.row is n.names)))

  stop_rows_sound : list_all (is_sound_in (content_of d) stop_rows) stop_rows ≡ true
  stop_rows_sound = all_from (is_sound_in (content_of d) stop_rows) stop_rows (λ r at.
      let m = stop_row_made d q r at in
      subst (λ (s : StopRow). is_sound_in (content_of d) stop_rows s ≡ true) m.same (stop_row_sound m.row m.names))

-- ---- trips

module _ (d : Dataset) (passes : Passes d) where
  module _ (n : ℕ) (row : is_row (records_in d file.Trips) n ≡ true) where
    value_is : (name : Literal) → column_named file.Trips (codes name) ≡ Some (required name id) → is_some (value_in d file.Trips n (codes name)) ≡ true
    value_is name there = value_of_word (value_in d file.Trips n (codes name)) (text_at d file.Trips n name) (word_is d passes file.Trips n row name id there refl)

    route : has_id (λ r. r.route_id) (content_of d).routes (text_at d file.Trips n "route_id") ≡ true
    route =
        route_known d passes (text_at d file.Trips n "route_id")
        (ap (λ u. is_some (row_with d file.Routes (codes "route_id") u)) (sym (required_id d passes file.Trips n row "route_id" refl))
        ∙ one_known (is_some (row_with d file.Routes (codes "route_id") (text_in d file.Trips n (codes "route_id")))) (none_unknown d passes file.Trips n (codes "route_id") row (value_is "route_id" refl)))

    service : has_id (λ s. s.service_id) (content_of d).services (text_at d file.Trips n "service_id") ≡ true
    service =
        let t = text_in d file.Trips n (codes "service_id") in
        service_known d passes (text_at d file.Trips n "service_id")
        (ap (λ u. is_some (row_with d file.Calendar (codes "service_id") u) || is_some (row_with d file.CalendarDates (codes "service_id") u)) (sym (required_id d passes file.Trips n row "service_id" refl))
        ∙ two_known (is_some (row_with d file.Calendar (codes "service_id") t)) (is_some (row_with d file.CalendarDates (codes "service_id") t)) (none_unknown d passes file.Trips n (codes "service_id") row (value_is "service_id" refl)))

    trip_sound : is_sound_trip (content_of d) (trip_in d n) ≡ true
    trip_sound =
        and_from _ _ (and_from _ _ (and_from _ _ route service) (stop_rows_sound d passes (text_at d file.Trips n "trip_id"))) (periods_sound d passes (text_at d file.Trips n "trip_id"))

  pub trips_sound : list_all (is_sound_trip (content_of d)) (content_of d).trips ≡ true
  trips_sound = all_made text_cmp nat_list_cmp_total (λ t. t.trip_id) (trip_in d) (rows d file.Trips) (is_sound_trip (content_of d)) (λ n at. trip_sound n (row_of d file.Trips n at))

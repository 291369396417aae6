-- Which events are at a stop time without a time of its own: under given times no event of a lane is.
use Rattle.std.proofs.Common.{◌≡◌, ◌≤◌, ◌<◌, ◌∙◌, ◌++◌, ◌==◌, ℕ, Bool, true, false, List, [], ◌∷◌, length, map, get_or, Option, Some, None, not, refl, ap, subst, arith}
use Rattle.std.specs.Prelude.{bytes_eq, ◌&&◌, is_some, option_map}
use Rattle.std.specs.List.{All, slice_get}
use Rattle.std.proofs.lemmas.Bool.{and_parts, true≢false}
use Rattle.std.proofs.lemmas.List.Folds.{list_any_none}
use Rattle.std.proofs.lemmas.Option.{slice_get-get_or, slice_get-map}
use Rattle.gtfs_field.proofs.NumberFacts.{number_itself as itself}
use Rattle.gtfs_field.proofs.ListFacts.{some_of}
use Rattle.gtfs_table.proofs.PartFacts.{length-parts}
use Rattle.gtfs_schema.specs.FieldValues.{if_there}
use Rattle.gtfs_rows.specs.Content.{Content}
use Rattle.gtfs_rows.specs.Places.{is_in_place}
use Rattle.gtfs_rows.specs.Rows.{StopRow, Trip}
use Rattle.gtfs_rows.specs.Runs.{allows_boarding, is_departure_row, is_not_last, is_run, is_timed, passes_at}
use Rattle.gtfs_rows.specs.Trips.{frequencies_by_trip, stop_rows_by_trip}
use Rattle.gtfs_stop_times.specs.RowTimes.{left_at}
use Rattle.gtfs_rows.specs.RowsInMemory.{IsSoundParts, content_of_parts, stop_row_of, text_of_number}
use Rattle.gtfs_rows.specs.declared.parts.Parts.{Parts}
use Rattle.gtfs_stop_times.specs.declared.stop_row.StopRow.{StopRow as StopTime}
use Rattle.gtfs_rows.proofs.TripsAt.{content_trip}
use Rattle.gtfs_times.specs.Filling.{timed, timed_trip}
use Rattle.gtfs_times.specs.TimedRows.{is_interpolated}
use Rattle.gtfs_times.specs.declared.times.Times.{Times}
use Rattle.gtfs_times.specs.declared.times.Times.TheVariants as times
use Rattle.gtfs_runs.specs.EventOrder.{is_same}
use Rattle.gtfs_runs.specs.Tallies.{tally}
use Rattle.gtfs_runs.specs.Events.{is_event}
use Rattle.gtfs_runs.specs.LaneKinds.{has_untimed, is_untimed_at}
use Rattle.gtfs_runs.specs.StopLanes.{AreLanesOf, LaneValue, events_of_service}
use Rattle.gtfs_runs.specs.declared.event.Event.{Event}
use Rattle.gtfs_runs.proofs.ContentEvents.{past_trips}
use Rattle.gtfs_runs.proofs.Counting.{same-self}
use Rattle.gtfs_runs.proofs.LatestEvents.{lane-tells, left-all, told}
use Rattle.gtfs_runs.proofs.Tallies.{one_at}

-- ---- an event is at a stop time with a time

at-row : (o : Option StopRow) (q : StopRow → Bool) → ((row : StopRow) → q row ≡ true → is_timed row ≡ true) → if_there o q ≡ true → if_there o (λ row. not (is_timed row)) ≡ false
at-row None q timed holds = refl
at-row (Some row) q timed holds = ap not (timed row holds)

at-trip : (o : Option Trip) (n : ℕ) (a : Trip → Bool) (q : Trip → StopRow → Bool) → ((t : Trip) (row : StopRow) → q t row ≡ true → is_timed row ≡ true)
    → if_there o (λ t. a t && if_there (slice_get t.stop_rows n) (q t)) ≡ true → if_there o (λ t. if_there (slice_get t.stop_rows n) (λ row. not (is_timed row))) ≡ false
at-trip None n a q timed holds = refl
at-trip (Some t) n a q timed holds = at-row (slice_get t.stop_rows n) (q t) (timed t) (and_parts (a t) (if_there (slice_get t.stop_rows n) (q t)) holds).1

module _ (c : Content) (s : List ℕ) where
  event-timed : (service : List ℕ) (e : Event) → is_event c s service e ≡ true → is_untimed_at c e ≡ false
  event-timed service e holds =
      at-trip (slice_get c.trips e.trip.0) e.row (λ t. bytes_eq t.service_id service && is_run t e.run)
      (λ t row. (row.stop_sequence == e.seq) && is_departure_row t row && is_in_place c s row.stop_id && (passes_at t e.run row == e.at))
      (λ t row is.
      let a = and_parts ((row.stop_sequence == e.seq) && is_departure_row t row && is_in_place c s row.stop_id) (passes_at t e.run row == e.at) is in
      let b = and_parts ((row.stop_sequence == e.seq) && is_departure_row t row) (is_in_place c s row.stop_id) a.0 in
      let d = and_parts (row.stop_sequence == e.seq) (is_departure_row t row) b.0 in
      (and_parts (is_timed row) (is_not_last t row) (and_parts (is_timed row && is_not_last t row) (allows_boarding row) d.1).0).0) holds

  -- each event of a lane is one
  none-untimed : (ids : List (List ℕ)) (lanes : List LaneValue) → AreLanesOf c s ids lanes → All (λ lane. has_untimed c lane ≡ false) lanes
  none-untimed ids lanes are i start inside =
      let lane = get_or lanes i start in
      let k = lane.service in
      let at = slice_get-get_or lanes i start inside in
      list_any_none (is_untimed_at c) lane.events (λ j d within.
      let e = get_or lane.events j d in
      let some = one_at (is_same e) lane.events j d within (same-self e) in
      let more = lane-tells (is_same e) k lanes i lane at (itself k) in
      event-timed (text_of_number ids k) e
      (told (is_event c s (text_of_number ids k) e) (tally (is_same e) (events_of_service k lanes)) (are.exact k e (are.within i start inside)) (omega (arith, some, more))))

-- ---- by the rows that the code reads

there-row : (p : Parts) (o : Option StopTime) → if_there (option_map (stop_row_of p) o) (λ row. not (is_timed row)) ≡ if_there o (λ row. not (is_some (left_at row)))
there-row p None = refl
there-row p (Some row) = refl

pub untimed_past : (p : Parts) (e : Event) → length p.trips ≤ e.trip.0 → is_untimed_at (content_of_parts p) e ≡ false
untimed_past p e past =
    ap (λ o. if_there o (λ t. if_there (slice_get t.stop_rows e.row) (λ row. not (is_timed row))))
    (past_trips p p.trips (stop_rows_by_trip p) (frequencies_by_trip p) e.trip.0 past)

pub untimed_row : (p : Parts) → IsSoundParts p → (e : Event) (rs : List StopTime) → e.trip.0 < length p.trips → slice_get (stop_rows_by_trip p) e.trip.0 ≡ Some rs
    → is_untimed_at (content_of_parts p) e ≡ if_there (slice_get rs e.row) (λ row. not (is_some (left_at row)))
untimed_row p sound e rs within at =
    let n = e.trip.0 in
    let periods : n < length (frequencies_by_trip p) = omega (arith, within, length-parts p.frequency_starts p.frequencies, sound.frequencies.0) in
    let some = some_of p.trips n within in
    let row = get_or p.trips n some in
    let fs = get_or (frequencies_by_trip p) n [] in
    ap (λ o. if_there o (λ t. if_there (slice_get t.stop_rows e.row) (λ x. not (is_timed x))))
    (content_trip p n row rs fs (slice_get-get_or p.trips n some within) at (slice_get-get_or (frequencies_by_trip p) n [] periods))
    ∙ ap (λ o. if_there o (λ x. not (is_timed x))) (slice_get-map (stop_row_of p) rs e.row) ∙ there-row p (slice_get rs e.row)

-- ---- given times change nothing

trips-given : (ts : List Trip) → map (timed_trip times.Given) ts ≡ ts
trips-given [] = refl
trips-given (t ∷ ts) = ap (λ us. t ∷ us) (trips-given ts)

timed-given : (c : Content) → timed times.Given c ≡ c
timed-given c = λ i. record c { trips = trips-given c.trips i }

pub given_lanes : (choice : Times) (c : Content) (s : List ℕ) (ids : List (List ℕ)) (lists periods : List LaneValue) → AreLanesOf (timed choice c) s ids (lists ++ periods)
    → is_interpolated choice ≡ false → All (λ lane. has_untimed c lane ≡ false) lists
given_lanes times.Given c s ids lists periods are is =
    left-all (λ lane. has_untimed c lane ≡ false) lists periods (none-untimed c s ids (lists ++ periods) (subst (λ d. AreLanesOf d s ids (lists ++ periods)) (timed-given c) are))
given_lanes times.Interpolated c s ids lists periods are is = absurd (true≢false is)

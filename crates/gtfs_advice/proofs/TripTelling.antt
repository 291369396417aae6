-- The trips of a feed by their numbers, and what was told of them so far.
use Rattle.std.proofs.Common.{◌≡◌, ◌∙◌, ◌+◌, ◌<◌, ◌≤◌, ◌++◌, ℕ, Bool, List, [], length, map, get_or, take, Some, refl, sym, ap, subst, arith}
use Rattle.std.specs.List.{slice_get}
use Rattle.std.proofs.lemmas.Option.{same_Some, slice_get-get_or}
use Rattle.gtfs_field.proofs.ListFacts.{some_of}
use Rattle.gtfs_table.proofs.PartFacts.{length-parts}
use Rattle.gtfs_rows.specs.Rows.{Trip}
use Rattle.gtfs_rows.specs.Trips.{frequencies_by_trip, stop_rows_by_trip}
use Rattle.gtfs_rows.specs.RowsInMemory.{IsSoundParts, content_of_parts, frequency_of, route_ids, service_ids, text_of_number, trip_of}
use Rattle.gtfs_rows.specs.declared.frequency.Frequency.{Frequency}
use Rattle.gtfs_rows.specs.declared.numbers.RouteNo.{RouteNo}
use Rattle.gtfs_rows.specs.declared.numbers.ServiceNo.{ServiceNo}
use Rattle.gtfs_rows.specs.declared.parts.Parts.{Parts}
use Rattle.gtfs_rows.specs.declared.trip.Trip.{Trip as Row}
use Rattle.gtfs_rows.proofs.NumberFacts.{trip_route, trip_service}
use Rattle.gtfs_rows.proofs.TripFacts.{stop_times}
use Rattle.gtfs_rows.proofs.TripsAt.{content_trip}
use Rattle.gtfs_stop_times.specs.declared.stop_row.StopRow.{StopRow}
use Rattle.gtfs_advice.specs.declared.advice.Advice.{Advice}
use Rattle.gtfs_advice.specs.declared.advice.Subject.TheVariants as subject
use Rattle.gtfs_advice.specs.declared.code.Code.{Code}
use Rattle.gtfs_advice.specs.declared.trip_courses.Course.{Course}
use Rattle.gtfs_advice.specs.Advice.{AdviceRule, Tells, advice_on, answers_of, row, said}
use Rattle.gtfs_advice.specs.TripCourses.{IsCourse}
use Rattle.gtfs_advice.specs.NumberedRows.{GoesAlong}
use Rattle.gtfs_advice.proofs.RepeatedTrips.{trip_id-at, trips_counted}
use Rattle.gtfs_advice.proofs.Telling.{told-all, told-more}

module _ (p : Parts) (sound : IsSoundParts p) where
  -- ---- a trip

  -- the row, the stop times and the frequencies of a trip
  record HasTrip (n : ℕ) : Type 0 where
    pub head : Row
    pub rows : List StopRow
    pub periods : List Frequency
    pub at_head : slice_get p.trips n ≡ Some head
    pub at_rows : slice_get (stop_rows_by_trip p) n ≡ Some rows
    pub at_periods : slice_get (frequencies_by_trip p) n ≡ Some periods

  has_trip : (n : ℕ) → n < length p.trips → HasTrip n
  has_trip n within = record {
    head = get_or p.trips n (some_of p.trips n within);
    rows = get_or (stop_rows_by_trip p) n [];
    periods = get_or (frequencies_by_trip p) n [];
    at_head = slice_get-get_or p.trips n (some_of p.trips n within) within;
    at_rows = slice_get-get_or (stop_rows_by_trip p) n [] (omega (arith, within, length-parts p.stop_times.starts p.stop_times.rows, sound.stop_rows.0));
    at_periods = slice_get-get_or (frequencies_by_trip p) n [] (omega (arith, within, length-parts p.frequency_starts p.frequencies, sound.frequencies.0));
  }

  module _ (n : ℕ) (within : n < length p.trips) (t : Trip) (there : slice_get (content_of_parts p).trips n ≡ Some t) where
    is : (x : HasTrip n) → t ≡ trip_of p x.head x.rows x.periods
    is x = same_Some t (trip_of p x.head x.rows x.periods) (sym there ∙ content_trip p n x.head x.rows x.periods x.at_head x.at_rows x.at_periods)

    pub headsign_of : (head : Row) → slice_get p.trips n ≡ Some head → t.trip_headsign ≡ head.trip_headsign
    headsign_of head at =
        let x = has_trip n within in
        ap (λ (u : Trip). u.trip_headsign) (is (record { head = head; rows = x.rows; periods = x.periods; at_head = at; at_rows = x.at_rows; at_periods = x.at_periods }))

    pub goes_along : (rows : List StopRow) → slice_get (stop_rows_by_trip p) n ≡ Some rows → GoesAlong p rows t
    goes_along rows at =
        let x = has_trip n within in
        record {
          sound = sound;
          are = stop_times p sound n rows at;
          is = ap (λ (u : Trip). u.stop_rows) (is (record { head = x.head; rows = rows; periods = x.periods; at_head = x.at_head; at_rows = at; at_periods = x.at_periods }));
        }

    pub periods_of : (periods : List Frequency) → slice_get (frequencies_by_trip p) n ≡ Some periods → t.frequencies ≡ map frequency_of periods
    periods_of periods at =
        let x = has_trip n within in
        ap (λ (u : Trip). u.frequencies) (is (record { head = x.head; rows = x.rows; periods = periods; at_head = x.at_head; at_rows = x.at_rows; at_periods = at }))

  -- the course of a trip
  pub is_course : (x : Course) (head : Row) → slice_get p.trips x.trip.0 ≡ Some head → slice_get (stop_rows_by_trip p) x.trip.0 ≡ Some x.rows.now
      → slice_get (frequencies_by_trip p) x.trip.0 ≡ Some x.periods.now → x.route ≡ head.route_id → x.service ≡ head.service_id → IsCourse p x
  is_course x head at_head at_rows at_periods route service =
      let n = x.trip.0 in
      record {
        trip = trip_of p head x.rows.now x.periods.now;
        there = content_trip p n head x.rows.now x.periods.now at_head at_rows at_periods;
        route = ap (λ (r : RouteNo). text_of_number (route_ids p) r.0) (sym route);
        route_known = subst (λ (r : RouteNo). r.0 < length p.routes) (sym route) (trip_route p sound n head at_head);
        service = ap (λ (s : ServiceNo). text_of_number (service_ids p) s.0) (sym service);
        service_known = subst (λ (s : ServiceNo). s.0 < length p.services) (sym service) (trip_service p sound n head at_head);
        along = record { sound = sound; are = stop_times p sound n x.rows.now at_rows; is = refl };
        periods = refl;
      }

  -- ---- a loop over trips

  module _ (rules : List (AdviceRule Trip)) where
    abbrev pub Told : ℕ → List Advice → List Advice → Type 0
    Told n old new = Tells p (advice_on (λ t. t.trip_id) rules (take n (content_of_parts p).trips)) old new

    pub trip-told : (n : ℕ) (answers : List (Code × Bool)) (old before after : List Advice) → n < length p.trips
        → ((t : Trip) → slice_get (content_of_parts p).trips n ≡ Some t → answers ≡ answers_of rules t) → after ≡ before ++ said (subject.Trip (record { 0 = n })) answers
        → Told n old before → Told (n + 1) old after
    trip-told n answers old before after within are behind so_far =
        let trips = (content_of_parts p).trips in
        let inside : n < length trips = omega (arith, trips_counted p sound, within) in
        let t = get_or trips n (some_of trips n inside) in
        let there = slice_get-get_or trips n (some_of trips n inside) inside in
        told-more p (λ u. u.trip_id) rules trips n t (subject.Trip (record { 0 = n })) answers old before after there (ap row (trip_id-at p sound n t there)) within (are t there) behind so_far

    pub trips-told : (n : ℕ) (old new : List Advice) → length p.trips ≤ n → Told n old new → Tells p (advice_on (λ t. t.trip_id) rules (content_of_parts p).trips) old new
    trips-told n old new all so_far = told-all p (λ t. t.trip_id) rules (content_of_parts p).trips n old new (omega (arith, trips_counted p sound, all)) so_far

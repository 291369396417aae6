-- The rows of a sound feed, filled, make a sound feed.
use Rattle.std.proofs.Common.{◌≡◌, ◌∙◌, ◌-◌, ◌<◌, ◌≤◌, ℕ, zero, suc, true, List, [], ◌∷◌, map, length, get_or, Option, Some, None, refl, sym, ap, subst, arith}
use Rattle.std.specs.Prelude.{◌&&◌, IfSome, is_some, unwrap_or}
use Rattle.std.specs.List.{list_all, slice_get}
use Rattle.std.specs.Option.{option_or}
use Rattle.std.specs.Ordering.{nat_cmp, on}
use Rattle.std.specs.declared.cmp.Ordering.TheVariants.{Less}
use Rattle.std.proofs.lemmas.Bool.{and_from, and_parts, false≢true}
use Rattle.std.proofs.lemmas.List.{get_or-map, length-map}
use Rattle.std.proofs.lemmas.List.Folds.{list_all-map}
use Rattle.std.proofs.lemmas.Option.{same_Some, slice_get-get_or}
use Rattle.gtfs_field.proofs.ListFacts.{some_of}
use Rattle.gtfs_field.specs.TextOrder.{text_cmp}
use Rattle.gtfs_rows.proofs.RowTexts.{all_at}
use Rattle.gtfs_rows.proofs.SameElements.{pairs-map}
use Rattle.gtfs_rows.proofs.TripFacts.{stop_times}
use Rattle.gtfs_rows.specs.Content.{Content}
use Rattle.gtfs_rows.specs.TransferOrder.{Ascends}
use Rattle.gtfs_rows.specs.Rows.{StopRow, Trip}
use Rattle.gtfs_rows.specs.Runs.{is_timed}
use Rattle.gtfs_rows.specs.SoundContent.{IsInOrder, has_id, is_sound_in, is_sound_period, is_sound_stop_row, is_sound_trip}
use Rattle.gtfs_rows.specs.Trips.{AreStopTimes, frequencies_by_trip, stop_rows_by_trip}
use Rattle.gtfs_stop_times.specs.RowTimes.{left_at}
use Rattle.gtfs_rows.specs.RowsInMemory.{IsSoundParts, content_of_parts, stop_row_of, trip_of, trips_of}
use Rattle.gtfs_rows.specs.declared.frequency.Frequency.{Frequency as PeriodRow}
use Rattle.gtfs_rows.specs.declared.parts.Parts.{Parts}
use Rattle.gtfs_stop_times.specs.declared.stop_row.StopRow.{StopRow as StopTime}
use Rattle.gtfs_rows.specs.declared.trip.Trip.{Trip as TripRow}
use Rattle.gtfs_times.specs.Filling.{left, reached, timed, timed_trip}
use Rattle.gtfs_times.specs.declared.times.Times.TheVariants as times
use Rattle.gtfs_times.proofs.FilledOrder.{KeepTime}
use Rattle.gtfs_times.proofs.FilledSound.{FineRows, all-from, rows-ascend, rows-fine}

trip_back : (p : Parts) (ts : List TripRow) (rs : List (List StopTime)) (fs : List (List PeriodRow)) (n : ℕ) (t : Trip) → slice_get (trips_of p ts rs fs) n ≡ Some t
    → (row : TripRow) × (r : List StopTime) × (q : List PeriodRow) × (slice_get rs n ≡ Some r) × (trip_of p row r q ≡ t)
trip_back p [] rs fs n t at = cc
trip_back p (u ∷ ts) [] fs n t at = cc
trip_back p (u ∷ ts) (x ∷ rs) [] n t at = cc
trip_back p (u ∷ ts) (x ∷ rs) (y ∷ fs) zero t at = (u, x, y, refl, same_Some (trip_of p u x y) t at)
trip_back p (u ∷ ts) (x ∷ rs) (y ∷ fs) (suc n) t at = trip_back p ts rs fs n t at

-- ---- times that may be missing

stay-times : (a d : Option ℕ) → IfSome a (λ x. IfSome d (λ y. x ≤ y)) → unwrap_or (option_or a d) 0 ≤ unwrap_or (option_or d a) 0
stay-times None None h = omega arith
stay-times None (Some y) h = omega arith
stay-times (Some x) None h = omega arith
stay-times (Some x) (Some y) h = h

on-times : (l a d : Option ℕ) → IfSome l (λ x. IfSome (option_or a d) (λ y. x ≤ y)) → is_some l ≡ true → is_some (option_or d a) ≡ true → unwrap_or l 0 ≤ unwrap_or (option_or a d) 0
on-times None a d h some also = absurd (false≢true some)
on-times (Some x) None None h some also = absurd (false≢true also)
on-times (Some x) None (Some y) h some also = h
on-times (Some x) (Some y) d h some also = h

abbrev pub blank : StopRow
blank = record {
  arrival_time = None;
  departure_time = None;
  stop_id = [];
  stop_sequence = 0;
  stop_headsign = None;
  pickup_type = 0;
  drop_off_type = 0;
  timepoint = None;
}

abbrev pub no_trip : Trip
no_trip = record {
  route_id = [];
  service_id = [];
  trip_id = [];
  trip_headsign = None;
  trip_short_name = None;
  direction_id = None;
  wheelchair_accessible = 0;
  bikes_allowed = 0;
  stop_rows = [];
  frequencies = [];
}

module _ (p : Parts) (sound : IsSoundParts p) where
  abbrev c : Content
  c = content_of_parts p

  abbrev fill_trip : Trip → Trip
  fill_trip = timed_trip times.Interpolated

  module _ (rs : List StopTime) (are : AreStopTimes p rs) where
    abbrev rows : List StopRow
    rows = map (stop_row_of p) rs

    long : length rows ≡ length rs
    long = length-map rs (stop_row_of p)

    at : (k : ℕ) (d : StopTime) → k < length rs → get_or rows k blank ≡ stop_row_of p (get_or rs k d)
    at k d within = get_or-map (stop_row_of p) rs k d blank within

    keep : KeepTime rows blank
    keep = record {
      first = λ some. let within : 0 < length rs = omega (arith, some, long) in let d = some_of rs 0 within in ap is_timed (at 0 d within) ∙ are.first_timed d within;
      last = λ some.
          let within : 0 < length rs = omega (arith, some, long) in
          let inside : length rs - 1 < length rs = omega arith in
          let d = some_of rs 0 within in
          ap (λ n. is_timed (get_or rows (n - 1) blank)) long ∙ ap is_timed (at (length rs - 1) d inside) ∙ are.last_timed d within;
      stay = λ k within is.
          let inside : k < length rs = omega (arith, within, long) in
          let d = some_of rs k inside in
          let r = get_or rs k d in
          subst (λ (x : StopRow). reached (k, x) ≤ left (k, x)) (sym (at k d inside)) (stay-times r.arrival_time r.departure_time (are.stay k d inside));
      on = λ i j before within first second.
          let in_j : j < length rs = omega (arith, within, long) in
          let in_i : i < length rs = omega (arith, before) in
          let d = some_of rs j in_j in
          let r = get_or rs i d in
          let s = get_or rs j d in
          subst (λ (x : StopRow). left (i, x) ≤ reached (j, get_or rows j blank)) (sym (at i d in_i)) (subst (λ (y : StopRow). left (i, stop_row_of p r) ≤ reached (j, y)) (sym (at j d in_j))
          (on-times (left_at r) s.arrival_time s.departure_time (are.run_on i j d before in_j) (ap is_timed (sym (at i d in_i)) ∙ first) (ap is_timed (sym (at j d in_j)) ∙ second)));
    }

    fine-rows : list_all (is_sound_in c rows) rows ≡ true → FineRows c rows blank
    fine-rows all = record {
      keep = keep;
      ascend = λ i j before within.
          let in_j : j < length rs = omega (arith, within, long) in
          let d = some_of rs j in_j in
          let up = are.ascend i j d before in_j in
          subst (λ (x : StopRow). x.stop_sequence < (get_or rows j blank).stop_sequence) (sym (at i d (omega (arith, before)))) (subst (λ (y : StopRow). (get_or rs i d).stop_sequence < y.stop_sequence) (sym (at j d in_j)) up);
      fine = λ k within.
          let r = get_or rows k blank in
          (and_parts (is_sound_stop_row c r) _ (and_parts (is_sound_stop_row c r && _) _ (all_at (is_sound_in c rows) rows k blank all within)).0).0;
    }

  -- a trip of the content
  record TripOf (k : ℕ) : Type 0 where
    pub rs : List StopTime
    pub are : AreStopTimes p rs
    pub is : (get_or c.trips k no_trip).stop_rows ≡ map (stop_row_of p) rs
    pub fine_trip : is_sound_trip c (get_or c.trips k no_trip) ≡ true

  trip-of : (k : ℕ) → k < length c.trips → TripOf k
  trip-of k within =
      let u = get_or c.trips k no_trip in
      let b = trip_back p p.trips (stop_rows_by_trip p) (frequencies_by_trip p) k u (slice_get-get_or c.trips k no_trip within) in
      record { rs = b.1; are = stop_times p sound k b.1 b.3; is = ap (λ (t : Trip). t.stop_rows) (sym b.4); fine_trip = all_at (is_sound_trip c) c.trips k no_trip sound.content.trips within }

  parts-of : (u : Trip) → is_sound_trip c u ≡ true
      → ((has_id (λ r. r.route_id) c.routes u.route_id && has_id (λ s. s.service_id) c.services u.service_id) ≡ true) × (list_all (is_sound_in c u.stop_rows) u.stop_rows ≡ true) × (list_all (is_sound_period u.frequencies) u.frequencies ≡ true)
  parts-of u h =
      let a = and_parts _ _ h in
      let b = and_parts _ _ a.0 in
      (b.0, b.1, a.1)

  module _ (k : ℕ) (within : k < length c.trips) where
    abbrev own : Trip
    own = get_or c.trips k no_trip

    pub fine : FineRows c own.stop_rows blank
    fine =
        let t = trip-of k within in
        let whole = (parts-of own t.fine_trip).1 in
        subst (λ rows. FineRows c rows blank) (sym t.is) (fine-rows t.rs t.are (subst (λ rows. list_all (is_sound_in c rows) rows ≡ true) t.is whole))

    trip-fine : is_sound_trip (timed times.Interpolated c) (fill_trip own) ≡ true
    trip-fine =
        let q = parts-of own (trip-of k within).fine_trip in
        and_from _ _ (and_from _ _ q.0 (rows-fine c own.stop_rows blank fine)) q.2

  pub trips-fine : list_all (is_sound_trip (timed times.Interpolated c)) (map fill_trip c.trips) ≡ true
  trips-fine = list_all-map (is_sound_trip (timed times.Interpolated c)) fill_trip c.trips ∙ all-from (λ t. is_sound_trip (timed times.Interpolated c) (fill_trip t)) c.trips no_trip trip-fine

  pub filled-order : IsInOrder (timed times.Interpolated c)
  filled-order =
      let order = sound.content.in_order in
      record {
        agencies = order.agencies;
        stops = order.stops;
        routes = order.routes;
        services = order.services;
        trips = pairs-map fill_trip (λ x y. text_cmp x.trip_id y.trip_id ≡ Less) c.trips order.trips;
        transfers = order.transfers;
        stop_rows = λ k d within.
            let inside : k < length c.trips = omega (arith, within, length-map c.trips fill_trip) in
            subst (λ (t : Trip). Ascends (on (λ r. r.stop_sequence) nat_cmp) t.stop_rows) (sym (get_or-map fill_trip c.trips k no_trip d inside)) (rows-ascend c (own k inside).stop_rows blank (fine k inside));
        frequencies = λ k d within.
            let inside : k < length c.trips = omega (arith, within, length-map c.trips fill_trip) in
            subst (λ (t : Trip). Ascends (on (λ f. f.start_time) nat_cmp) t.frequencies) (sym (get_or-map fill_trip c.trips k no_trip d inside)) (order.frequencies k no_trip inside);
        exceptions = order.exceptions;
      }

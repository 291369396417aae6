-- The departures of the lanes of a stop stand for the keys of the departures at its place.
use Rattle.std.proofs.Common.{◌≡◌, ◌<◌, ℕ, ℤ, ◌&&◌, true, List, map, length, Some, refl, sym, ap, subst, ◌∙◌, arith}
use Rattle.std.specs.Prelude.{◌==◌, pos, ◌+ℤ◌, ◌≤ℤ◌, int_le, slice_get, bytes_eq}
use Rattle.std.specs.Ordering.{int_eq, nat_cmp, on}
use Rattle.std.specs.declared.cmp.Ordering.TheVariants.{Less}
use Rattle.std.proofs.lemmas.Bool.{and_from, and_parts, eqb-true, eq-eqb}
use Rattle.std.proofs.lemmas.Int.{ints}
use Rattle.std.proofs.lemmas.List.{length-map}
use Rattle.std.proofs.lemmas.Option.{get_or_from_slice_get, same_Some as some_is, slice_get_within}
use Rattle.std.proofs.lemmas.Map.Keys.{any_passes_from_place as at_any}
use Rattle.gtfs_field.proofs.NumberFacts.{eq-int_eq, int_eq-true, int_le-true, le-int_le}
use Rattle.gtfs_field.proofs.ListFacts.{mapped_at as at_map}
use Rattle.gtfs_schema.proofs.SiteFacts.{text_is, text_itself}
use Rattle.gtfs_schema.specs.FieldValues.{if_there}
use Rattle.gtfs_days.specs.Service.{is_active}
use Rattle.gtfs_rows.proofs.SoundOrder.{in_order}
use Rattle.gtfs_rows.specs.Trips.{stop_rows_by_trip, frequencies_by_trip}
use Rattle.gtfs_rows.proofs.SameElements.{pairs-map}
use Rattle.gtfs_rows.specs.Content.{Content}
use Rattle.gtfs_rows.specs.TransferOrder.{Ascends}
use Rattle.gtfs_rows.specs.Rows.{ServiceRow, StopRow, Trip}
use Rattle.gtfs_rows.specs.RowsInMemory.{IsSoundParts, content_of_parts, service_ids, service_of, text_of_number, trip_ids}
use Rattle.gtfs_rows.specs.declared.parts.Parts.{Parts}
use Rattle.gtfs_rows.specs.Places.{is_in_place}
use Rattle.gtfs_runs.specs.StopLanes.{AreLanesOf, StopLanesValue, lanes_of}
use Rattle.gtfs_rows.specs.Runs.{is_run, is_departure_row, passes_at}
use Rattle.gtfs_runs.specs.declared.event.Event.{Event}
use Rattle.gtfs_field.specs.TextOrder.{text_cmp}
use Rattle.gtfs_board.specs.CandidateKeys.{key_among}
use Rattle.gtfs_rows.specs.Departures.{Origins, departs_at, runs_on}
use Rattle.gtfs_rows.specs.Key.{Key}
use Rattle.gtfs_board.specs.LaneDays.{all_departures, departing, lane_at, serves_on}
use Rattle.gtfs_board.specs.declared.upcoming.candidate.Candidate.{Candidate}
use Rattle.gtfs_board.specs.upcoming.QueueOrder.{In}
use Rattle.gtfs_board.proofs.BoardKeys.{StandFor}
use Rattle.gtfs_runs.proofs.TripIds.{text_at}
use Rattle.gtfs_board.proofs.EventFacts.{IsPassing, any_at, event_lane, lane_event, lane_one, map_at, of_passing, passing, same_number, same_row, service_within, there_some, trip_back}
use Rattle.gtfs_board.proofs.LaneDays.{all-on, event-on, on-all, on-event}

-- ---- a departure by its parts

-- the key names a run of a trip that passes a departure row at the place
pub record IsDeparting (f : Content) (origin : Origins) (s : List ℕ) (k : Key) : Type 0 where
  pub trip_number : ℕ
  pub trip : Trip
  pub row_number : ℕ
  pub row : StopRow
  pub trip_at : slice_get f.trips trip_number ≡ Some trip
  pub row_at : slice_get trip.stop_rows row_number ≡ Some row
  pub id : trip.trip_id ≡ k.trip
  pub runs : runs_on f trip k.day ≡ true
  pub run : is_run trip k.run ≡ true
  pub sequence : row.stop_sequence ≡ k.sequence
  pub departs : is_departure_row trip row ≡ true
  pub place : is_in_place f s row.stop_id ≡ true
  pub instant : k.instant ≡ origin k.day +ℤ pos (passes_at trip k.run row)

pub departing_from : (f : Content) (origin : Origins) (s : List ℕ) (k : Key) → departs_at f origin s k ≡ true → IsDeparting f origin s k
departing_from f origin s k h =
    let t = any_at _ f.trips h in
    let u = t.1 in
    let rows = and_parts (bytes_eq u.trip_id k.trip && runs_on f u k.day && is_run u k.run) _ t.2.1 in
    let run = and_parts (bytes_eq u.trip_id k.trip && runs_on f u k.day) (is_run u k.run) rows.0 in
    let id = and_parts (bytes_eq u.trip_id k.trip) (runs_on f u k.day) run.0 in
    let r = any_at _ u.stop_rows rows.1 in
    let x = r.1 in
    let three = and_parts ((x.stop_sequence == k.sequence) && is_departure_row u x && is_in_place f s x.stop_id) (int_eq k.instant (origin k.day +ℤ pos (passes_at u k.run x))) r.2.1 in
    let two = and_parts ((x.stop_sequence == k.sequence) && is_departure_row u x) (is_in_place f s x.stop_id) three.0 in
    let one = and_parts (x.stop_sequence == k.sequence) (is_departure_row u x) two.0 in
    record {
      trip_number = t.0;
      trip = u;
      row_number = r.0;
      row = x;
      trip_at = t.2.0;
      row_at = r.2.0;
      id = text_is u.trip_id k.trip id.0;
      runs = id.1;
      run = run.1;
      sequence = eqb-true x.stop_sequence k.sequence one.0;
      departs = one.1;
      place = two.1;
      instant = int_eq-true k.instant (origin k.day +ℤ pos (passes_at u k.run x)) three.1;
    }

pub from_departing : (f : Content) (origin : Origins) (s : List ℕ) (k : Key) → IsDeparting f origin s k → departs_at f origin s k ≡ true
from_departing f origin s k h =
    let u = h.trip in
    let x = h.row in
    at_any _ f.trips h.trip_number u h.trip_at
    (and_from (bytes_eq u.trip_id k.trip && runs_on f u k.day && is_run u k.run) _
    (and_from (bytes_eq u.trip_id k.trip && runs_on f u k.day) (is_run u k.run)
    (and_from (bytes_eq u.trip_id k.trip) (runs_on f u k.day) (ap (bytes_eq u.trip_id) (sym h.id) ∙ text_itself u.trip_id) h.runs) h.run)
    (at_any _ u.stop_rows h.row_number x h.row_at
    (and_from ((x.stop_sequence == k.sequence) && is_departure_row u x && is_in_place f s x.stop_id) (int_eq k.instant (origin k.day +ℤ pos (passes_at u k.run x)))
    (and_from ((x.stop_sequence == k.sequence) && is_departure_row u x) (is_in_place f s x.stop_id)
    (and_from (x.stop_sequence == k.sequence) (is_departure_row u x) (eq-eqb x.stop_sequence k.sequence h.sequence) h.departs) h.place)
    (eq-int_eq k.instant (origin k.day +ℤ pos (passes_at u k.run x)) h.instant))))

-- ---- services by number

module _ (p : Parts) where
  pub serves_runs : (k : ℕ) (d : ℤ) (t : Trip) → t.service_id ≡ text_of_number (service_ids p) k → serves_on p k d ≡ true → runs_on (content_of_parts p) t d ≡ true
  serves_runs k d t is busy =
      let r = there_some (slice_get p.services k) (λ s. is_active s.service d) busy in
      let id : t.service_id ≡ r.0.service_id = is ∙ text_at (λ s. s.service_id) p.services k r.0 r.1.0 in
      at_any (λ s. bytes_eq s.service_id t.service_id && is_active s.service d) (map service_of p.services) k (service_of r.0) (at_map service_of p.services k r.0 r.1.0)
      (and_from (bytes_eq r.0.service_id t.service_id) (is_active r.0.service d) (ap (bytes_eq r.0.service_id) id ∙ text_itself r.0.service_id) r.1.1)

  pub record Serves (t : Trip) (d : ℤ) : Type 0 where
    pub number : ℕ
    pub within : number < length (service_ids p)
    pub id : t.service_id ≡ text_of_number (service_ids p) number
    pub busy : serves_on p number d ≡ true

  pub runs_serves : (t : Trip) (d : ℤ) → runs_on (content_of_parts p) t d ≡ true → Serves t d
  runs_serves t d runs =
      let r = any_at (λ (s : ServiceRow). bytes_eq s.service_id t.service_id && is_active s.service d) (map service_of p.services) runs in
      let m = map_at service_of p.services r.0 r.1 r.2.0 in
      let both = and_parts (bytes_eq r.1.service_id t.service_id) (is_active r.1.service d) r.2.1 in
      let same : m.0.service_id ≡ r.1.service_id = ap (λ (s : ServiceRow). s.service_id) m.1.1 in
      record {
        number = r.0;
        within = omega (arith, slice_get_within p.services r.0 m.0 m.1.0, length-map p.services (λ s. s.service_id));
        id = sym (text_is r.1.service_id t.service_id both.0) ∙ sym same ∙ sym (text_at (λ s. s.service_id) p.services r.0 m.0 m.1.0);
        busy = ap (λ o. if_there o (λ s. is_active s.service d)) m.1.0 ∙ ap (λ (s : ServiceRow). is_active s.service d) m.1.1 ∙ both.1;
      }

-- ---- the departures of lanes

-- the event of its lane that a departure is
pub record IsTraced (p : Parts) (origin : Origins) (s : List ℕ) (lanes : StopLanesValue) (end : ℤ) (c : Candidate) : Type 0 where
  pub event : Event
  pub there : In event (lane_at lanes c.lane).events
  pub is : c ≡ departing (origin c.day) c.day c.lane event
  pub busy : serves_on p (lane_at lanes c.lane).service c.day ≡ true
  pub ends : c.instant ≤ℤ end
  pub passes : IsPassing (content_of_parts p) s (text_of_number (service_ids p) (lane_at lanes c.lane).service) event

module _ (p : Parts) (sound : IsSoundParts p) (s : List ℕ) (lanes : StopLanesValue) (are : AreLanesOf (content_of_parts p) s (service_ids p) (lanes_of lanes)) (origin : Origins) (end : ℤ) where
  pub traced : (c : Candidate) → In c (all_departures p origin lanes end) → IsTraced p origin s lanes end c
  traced c there =
      let on = on-event p origin lanes end c.lane c.day c (all-on p origin lanes end c there) in
      record {
        event = on.1.0;
        there = on.1.1.0;
        is = on.1.1.1;
        busy = on.0;
        ends = on.2;
        passes = passing (content_of_parts p) s (text_of_number (service_ids p) (lane_at lanes c.lane).service) on.1.0 (lane_event (content_of_parts p) s (service_ids p) lanes are c.lane on.1.0 on.1.1.0);
      }

  pub trip_numbered : (n : ℕ) (t : Trip) → slice_get (content_of_parts p).trips n ≡ Some t → (n < length (trip_ids p)) × (text_of_number (trip_ids p) n ≡ t.trip_id)
  trip_numbered n t at =
      let r = trip_back p p.trips (stop_rows_by_trip p) (frequencies_by_trip p) n t at in (
        omega (arith, slice_get_within p.trips n r.0 r.3.0, length-map p.trips (λ t. t.trip_id)),
        text_at (λ t. t.trip_id) p.trips n r.0 r.3.0 ∙ ap (λ (t : Trip). t.trip_id) r.3.1.1.1,
      )

  pub ids_ascend : Ascends text_cmp (trip_ids p)
  ids_ascend = pairs-map (λ t. t.trip_id) (λ a b. text_cmp a b ≡ Less) p.trips (in_order p sound).trips

  services_ascend : Ascends text_cmp (service_ids p)
  services_ascend = pairs-map (λ s. s.service_id) (λ a b. text_cmp a b ≡ Less) p.services (in_order p sound).services

  pub numbered : (c : Candidate) → In c (all_departures p origin lanes end) → c.trip < length (trip_ids p)
  numbered c there =
      let t = traced c there in
      subst (λ n. n < length (trip_ids p)) (sym (ap (λ (x : Candidate). x.trip) t.is)) (trip_numbered t.event.trip.0 t.passes.trip t.passes.trip_at).0

  same_at : (a b : ℤ) (m n : ℕ) (x y : ℤ) → a ≡ b → x ≡ y → x ≡ a +ℤ pos m → y ≡ b +ℤ pos n → m ≡ n
  same_at a b m n x y ab xy is_x is_y = omega (arith, ints, ab, xy, is_x, is_y)

  pub distinct : (c d : Candidate) → In c (all_departures p origin lanes end) → In d (all_departures p origin lanes end) → key_among (trip_ids p) c ≡ key_among (trip_ids p) d → c ≡ d
  distinct c d there_c there_d keys =
      let f = content_of_parts p in
      let a = traced c there_c in
      let b = traced d there_d in
      let days : c.day ≡ d.day = ap (λ (k : Key). k.day) keys in
      let instants : c.instant ≡ d.instant = ap (λ (k : Key). k.instant) keys in
      let runs : c.run ≡ d.run = ap (λ (k : Key). k.run) keys in
      let sequences : c.sequence ≡ d.sequence = ap (λ (k : Key). k.sequence) keys in
      let trips : c.trip ≡ d.trip = same_number (trip_ids p) c.trip d.trip ids_ascend (numbered c there_c) (numbered d there_d) (ap (λ (k : Key). k.trip) keys) in
      let trip : a.event.trip.0 ≡ b.event.trip.0 = sym (ap (λ (x : Candidate). x.trip) a.is) ∙ trips ∙ ap (λ (x : Candidate). x.trip) b.is in
      let run : a.event.run ≡ b.event.run = sym (ap (λ (x : Candidate). x.run) a.is) ∙ runs ∙ ap (λ (x : Candidate). x.run) b.is in
      let seq : a.event.seq ≡ b.event.seq = sym (ap (λ (x : Candidate). x.sequence) a.is) ∙ sequences ∙ ap (λ (x : Candidate). x.sequence) b.is in
      let one : a.passes.trip ≡ b.passes.trip = some_is a.passes.trip b.passes.trip (sym a.passes.trip_at ∙ ap (slice_get f.trips) trip ∙ b.passes.trip_at) in
      let rows : Ascends (on (λ r. r.stop_sequence) nat_cmp) b.passes.trip.stop_rows =
      subst (λ (t : Trip). Ascends (on (λ r. r.stop_sequence) nat_cmp) t.stop_rows) (get_or_from_slice_get f.trips b.event.trip.0 b.passes.trip b.passes.trip b.passes.trip_at)
      (sound.content.in_order.stop_rows b.event.trip.0 b.passes.trip (slice_get_within f.trips b.event.trip.0 b.passes.trip b.passes.trip_at)) in
      let row : a.event.row ≡ b.event.row = same_row b.passes.trip.stop_rows a.event.row b.event.row a.passes.row b.passes.row rows
      (subst (λ (t : Trip). slice_get t.stop_rows a.event.row ≡ Some a.passes.row) one a.passes.row_at) b.passes.row_at (a.passes.sequence ∙ seq ∙ sym b.passes.sequence) in
      let at : a.event.at ≡ b.event.at = same_at (origin c.day) (origin d.day) a.event.at b.event.at c.instant d.instant (ap origin days) instants (ap (λ (x : Candidate). x.instant) a.is) (ap (λ (x : Candidate). x.instant) b.is) in
      let events : a.event ≡ b.event = λ i. record { at = at i; trip = record { 0 = trip i }; run = run i; seq = seq i; row = row i } in
      let k = (lane_at lanes c.lane).service in
      let m = (lane_at lanes d.lane).service in
      let service : k ≡ m = same_number (service_ids p) k m services_ascend
      (service_within f s (service_ids p) lanes are c.lane a.event a.there) (service_within f s (service_ids p) lanes are d.lane b.event b.there)
      (sym a.passes.service_is ∙ ap (λ (t : Trip). t.service_id) one ∙ b.passes.service_is) in
      let lane : c.lane ≡ d.lane = lane_one f s (service_ids p) lanes are c.lane d.lane a.event a.there (subst (λ e. In e (lane_at lanes d.lane).events) (sym events) b.there) service in
      a.is ∙ (λ i. departing (origin (days i)) (days i) (lane i) (events i)) ∙ sym b.is

  pub stand_for : StandFor (trip_ids p) (λ k. departs_at (content_of_parts p) origin s k && int_le k.instant end) (all_departures p origin lanes end)
  stand_for =
      let f = content_of_parts p in
      record {
        numbered = numbered;
        distinct = distinct;
        sound = λ c there.
            let t = traced c there in
            let k = key_among (trip_ids p) c in
            let e = t.event in
            and_from (departs_at f origin s k) (int_le c.instant end) (from_departing f origin s k (record {
              trip_number = e.trip.0;
              trip = t.passes.trip;
              row_number = e.row;
              row = t.passes.row;
              trip_at = t.passes.trip_at;
              row_at = t.passes.row_at;
              id = sym (trip_numbered e.trip.0 t.passes.trip t.passes.trip_at).1 ∙ ap (text_of_number (trip_ids p)) (sym (ap (λ (x : Candidate). x.trip) t.is));
              runs = serves_runs p (lane_at lanes c.lane).service c.day t.passes.trip t.passes.service_is t.busy;
              run = ap (is_run t.passes.trip) (ap (λ (x : Candidate). x.run) t.is) ∙ t.passes.run;
              sequence = t.passes.sequence ∙ sym (ap (λ (x : Candidate). x.sequence) t.is);
              departs = t.passes.departs;
              place = t.passes.place;
              instant = ap (λ (x : Candidate). x.instant) t.is ∙ ap (λ n. origin c.day +ℤ pos n) (sym t.passes.at ∙ ap (λ n. passes_at t.passes.trip n t.passes.row) (sym (ap (λ (x : Candidate). x.run) t.is)));
            })) (le-int_le c.instant end t.ends);
        whole = λ k belongs.
            let both = and_parts (departs_at f origin s k) (int_le k.instant end) belongs in
            let h = departing_from f origin s k both.0 in
            let service = runs_serves p h.trip k.day h.runs in
            let e : Event = record { at = passes_at h.trip k.run h.row; trip = record { 0 = h.trip_number }; run = k.run; seq = k.sequence; row = h.row_number } in
            let is = of_passing f s (text_of_number (service_ids p) service.number) e (record {
              trip = h.trip;
              row = h.row;
              trip_at = h.trip_at;
              row_at = h.row_at;
              service_is = service.id;
              run = h.run;
              sequence = h.sequence;
              departs = h.departs;
              place = h.place;
              at = refl;
            }) in
            let lane = event_lane f s (service_ids p) lanes are service.number e service.within is in
            let busy : serves_on p (lane_at lanes lane.0).service k.day ≡ true = ap (λ n. serves_on p n k.day) lane.1.1.0 ∙ service.busy in
            let c = departing (origin k.day) k.day lane.0 e in
            let ends : (origin k.day +ℤ pos e.at) ≤ℤ end = subst (λ x. x ≤ℤ end) h.instant (int_le-true k.instant end both.1) in
            let there = on-all p origin lanes end c (event-on p origin lanes end lane.0 k.day e busy lane.1.1.1 ends) in
            let trip = (trip_numbered h.trip_number h.trip h.trip_at).1 ∙ h.id in
            let back = sym h.instant in
            (c, (there, λ i. record { instant = back i; trip = trip i; run = k.run; sequence = k.sequence; day = k.day }));
      }

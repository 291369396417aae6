-- The events of a trip at one of its stop times: one for each run, if riders can leave the place there.
use Rattle.std.proofs.Common.{◌≡◌, ◌≤◌, ◌<◌, ◌∙◌, ◌&&◌, ◌==◌, ℕ, zero, suc, Bool, true, false, cond, List, [], length, map, get_or, Option, Some, None, nat_lt, refl, sym, ap, subst, arith, inl, inr}
use Rattle.std.specs.Prelude.{IfSome, is_some, unwrap_or}
use Rattle.std.specs.List.{All, slice_get}
use Rattle.std.specs.Option.{option_or}
use Rattle.std.specs.Cmp.{both_ways}
use Rattle.std.specs.Cmp.Derive.{both_true}
use Rattle.std.proofs.lemmas.Bool.{and_parts, cases_Bool, eqb-true, lt-ltb, ltb-true, ltb-false}
use Rattle.std.proofs.lemmas.Option.{slice_get-get_or, slice_get_within}
use Rattle.gtfs_field.proofs.NumberFacts.{number_itself as itself}
use Rattle.gtfs_field.proofs.ListFacts.{some_of}
use Rattle.gtfs_schema.specs.FieldValues.{if_there}
use Rattle.gtfs_rows.specs.declared.frequency.Frequency.{Frequency}
use Rattle.gtfs_rows.specs.declared.numbers.ServiceNo.{ServiceNo}
use Rattle.gtfs_rows.specs.declared.parts.Parts.{Parts}
use Rattle.gtfs_stop_times.specs.declared.stop_row.StopRow.{StopRow}
use Rattle.gtfs_rows.specs.declared.trip.Trip.{Trip}
use Rattle.gtfs_rows.specs.RowsInMemory.{IsSoundParts, content_of_parts, service_ids, stop_ids, stop_row_of, text_of_number, trip_of}
use Rattle.gtfs_rows.specs.Trips.{AreStopTimes, frequencies_by_trip, stop_rows_by_trip}
use Rattle.gtfs_stop_times.specs.RowTimes.{left_at}
use Rattle.gtfs_rows.proofs.NumberFacts.{trip_service}
use Rattle.gtfs_rows.proofs.TripFacts.{stop_times}
use Rattle.gtfs_table.proofs.PartFacts.{length-parts}
use Rattle.gtfs_runs.specs.EventOrder.{is_same}
use Rattle.gtfs_runs.specs.Tallies.{tally}
use Rattle.gtfs_runs.specs.Events.{is_event}
use Rattle.gtfs_runs.specs.FlatEvents.{Served, is_event_of, is_served, served_at}
use Rattle.gtfs_rows.specs.Places.{members}
use Rattle.gtfs_rows.specs.Runs.{is_departure_row, is_run, passes_at}
use Rattle.gtfs_runs.specs.declared.event.Event.{Event}
use Rattle.gtfs_runs.proofs.ContentEvents.{event_is, is_at, no_event}
use Rattle.gtfs_runs.proofs.Counting.{same-is, same-self, tally-map}
use Rattle.gtfs_runs.proofs.Tallies.{tally-and, tally-same}

-- ---- over plain tests

module _ (passes : ℕ → ℕ) (service : ServiceNo) (t seq n k : ℕ) (e : Event) where
  -- the event of a run that has these values
  abbrev made : ℕ → Served
  made r = (service, record { at = passes r; trip = record { 0 = t }; run = r; seq = seq; row = n })

  -- what an event says beside its run
  abbrev says_of : Event → Bool
  says_of x = (service.0 == k) && (x.trip.0 == t) && (x.row == n) && (seq == x.seq) && (passes x.run == x.at)

  served_is : (r : ℕ) → is_served k e (made r) ≡ ((e.run == r) && says_of e)
  served_is r = both_ways (is_served k e (made r)) ((e.run == r) && says_of e) to from
    where
      to : is_served k e (made r) ≡ true → ((e.run == r) && says_of e) ≡ true
      to holds =
          let a = and_parts (service.0 == k) (is_same e (made r).1) holds in
          subst (λ x. ((x.run == r) && says_of x) ≡ true) (sym (same-is e (made r).1 a.1))
          (both_true (itself r) (both_true (both_true (both_true (both_true a.0 (itself t)) (itself n)) (itself seq)) (itself (passes r))))

      from : ((e.run == r) && says_of e) ≡ true → is_served k e (made r) ≡ true
      from holds =
          let own = service.0 == k in
          let trip = e.trip.0 == t in
          let numbered = e.row == n in
          let a = and_parts (e.run == r) (says_of e) holds in
          let b = and_parts (own && trip && numbered && (seq == e.seq)) (passes e.run == e.at) a.1 in
          let c = and_parts (own && trip && numbered) (seq == e.seq) b.0 in
          let d = and_parts (own && trip) numbered c.0 in
          let f = and_parts own trip d.0 in
          let run : e.run ≡ r = eqb-true e.run r a.0 in
          let at : e.at ≡ passes r = sym (eqb-true (passes e.run) e.at b.1) ∙ ap passes run in
          let trips : e.trip.0 ≡ t = eqb-true e.trip.0 t f.1 in
          let seqs : e.seq ≡ seq = sym (eqb-true seq e.seq c.1) in
          let rows : e.row ≡ n = eqb-true e.row n d.1 in
          let is : e ≡ (made r).1 = λ i. record { at = at i; trip = record { 0 = trips i }; run = run i; seq = seqs i; row = rows i } in
          both_true f.0 (subst (λ x. is_same e x ≡ true) is (same-self e))

  -- how often an event is told where one is told for each run
  told : (starts : List ℕ) (runs leaves event : Bool) → event ≡ (runs && leaves && says_of e) → leaves ≡ true → tally (λ y. e.run == y) starts ≡ cond runs 1 0
      → tally (is_served k e) (map made starts) ≡ cond event 1 0
  told starts runs leaves event is boards known =
      tally-map (is_served k e) made starts ∙ tally-same (λ r. is_served k e (made r)) (λ r. (e.run == r) && says_of e) starts served_is
      ∙ tally-and (λ r. e.run == r) (says_of e) starts ∙ ap (λ m. cond (says_of e) m 0) known ∙ both runs (says_of e)
      ∙ ap (λ b. cond (runs && b && says_of e) 1 0) (sym boards) ∙ ap (λ b. cond b 1 0) (sym is)
    where
      both : (a b : Bool) → ◌≡◌ {A = ℕ} (cond b (cond a 1 0) 0) (cond (a && true && b) 1 0)
      both true true = refl
      both true false = refl
      both false true = refl
      both false false = refl

-- an event of the trip at the stop time is that of one of its runs, if riders can leave the place
leaves_if : (trip numbered inside event service runs seq departs flag pass : Bool)
    → (inside ≡ true → trip ≡ true → numbered ≡ true → event ≡ (service && runs && (seq && departs && flag && pass))) → (service ≡ true → inside ≡ true)
    → (trip && numbered && (inside && event)) ≡ (runs && (departs && flag) && (service && trip && numbered && seq && pass))
leaves_if trip numbered inside event service runs seq departs flag pass own within =
    both_ways (trip && numbered && (inside && event)) (runs && (departs && flag) && (service && trip && numbered && seq && pass)) to from
  where
    to : (trip && numbered && (inside && event)) ≡ true → (runs && (departs && flag) && (service && trip && numbered && seq && pass)) ≡ true
    to holds =
        let a = and_parts (trip && numbered) (inside && event) holds in
        let b = and_parts trip numbered a.0 in
        let c = and_parts inside event a.1 in
        let d = and_parts (service && runs) (seq && departs && flag && pass) (sym (own c.0 b.0 b.1) ∙ c.1) in
        let f = and_parts service runs d.0 in
        let g = and_parts (seq && departs && flag) pass d.1 in
        let h = and_parts (seq && departs) flag g.0 in
        let j = and_parts seq departs h.0 in
        both_true (both_true f.1 (both_true j.1 h.1)) (both_true (both_true (both_true (both_true f.0 b.0) b.1) j.0) g.1)

    from : (runs && (departs && flag) && (service && trip && numbered && seq && pass)) ≡ true → (trip && numbered && (inside && event)) ≡ true
    from holds =
        let a = and_parts (runs && (departs && flag)) (service && trip && numbered && seq && pass) holds in
        let r = and_parts runs (departs && flag) a.0 in
        let l = and_parts departs flag r.1 in
        let b = and_parts (service && trip && numbered && seq) pass a.1 in
        let c = and_parts (service && trip && numbered) seq b.0 in
        let d = and_parts (service && trip) numbered c.0 in
        let f = and_parts service trip d.0 in
        let is = own (within f.0) f.1 d.1 ∙ both_true (both_true f.0 r.0) (both_true (both_true (both_true c.1 l.0) l.1) b.1) in
        both_true (both_true f.1 d.1) (both_true (within f.0) is)

-- what an event says of its stop time holds of one of the trip's
own_row : (trip inside event own here : Bool) → (inside ≡ true → trip ≡ true → event ≡ (own && here)) → (trip && (inside && event)) ≡ true → here ≡ true
own_row trip inside event own here is holds =
    let a = and_parts trip (inside && event) holds in
    let b = and_parts inside event a.1 in
    (and_parts own here (sym (is b.0 a.0) ∙ b.1)).1

-- none is told where riders cannot leave the place
untold : (runs leaves says event : Bool) → event ≡ (runs && leaves && says) → leaves ≡ false → event ≡ false
untold runs leaves says event is stays = is ∙ ap (λ b. runs && b && says) stays ∙ never runs says
  where
    never : (a b : Bool) → (a && false && b) ≡ false
    never true b = refl
    never false b = refl

-- ---- a stop time of a trip

-- riders can leave the place at the stop time
abbrev pub leaves_here : Parts → ℕ → Trip → List StopRow → List Frequency → StopRow → Bool
leaves_here p s row rs fs x = is_departure_row (trip_of p row rs fs) (stop_row_of p x) && get_or (members (content_of_parts p) (text_of_number (stop_ids p) s)) x.stop_id.0 false

module _ (p : Parts) (sound : IsSoundParts p) (s t : ℕ) (row : Trip) (rs : List StopRow) (fs : List Frequency)
    (at_trip : slice_get p.trips t ≡ Some row) (at_rows : slice_get (stop_rows_by_trip p) t ≡ Some rs) (at_periods : slice_get (frequencies_by_trip p) t ≡ Some fs)
    (known : All (λ r. r.stop_id.0 < length p.stops) rs) where
  -- the event belongs to the trip's service, one of its runs and one of its stop times
  own_event : (k : ℕ) (e : Event) → nat_lt k (length p.services) ≡ true → (e.trip.0 == t) ≡ true
      → is_event (content_of_parts p) (text_of_number (stop_ids p) s) (text_of_number (service_ids p) k) e
      ≡ ((row.service_id.0 == k) && is_run (trip_of p row rs fs) e.run && if_there (slice_get rs e.row) (is_at p s row rs fs e))
  own_event k e inside trip =
      let same : e.trip.0 ≡ t = eqb-true e.trip.0 t trip in
      event_is p sound s k row rs fs e (ltb-true k (length p.services) inside) (subst (λ n. slice_get p.trips n ≡ Some row) (sym same) at_trip)
      (subst (λ n. slice_get (stop_rows_by_trip p) n ≡ Some rs) (sym same) at_rows) (subst (λ n. slice_get (frequencies_by_trip p) n ≡ Some fs) (sym same) at_periods) known

  -- its row is one of the trip's
  pub row_known : (k : ℕ) (e : Event) → ((e.trip.0 == t) && is_event_of p s k e) ≡ true → e.row < length rs
  row_known k e holds =
      there (slice_get rs e.row) refl
      (own_row (e.trip.0 == t) (nat_lt k (length p.services)) (is_event (content_of_parts p) (text_of_number (stop_ids p) s) (text_of_number (service_ids p) k) e)
      ((row.service_id.0 == k) && is_run (trip_of p row rs fs) e.run) (if_there (slice_get rs e.row) (is_at p s row rs fs e)) (own_event k e) holds)
    where
      there : (o : Option StopRow) → slice_get rs e.row ≡ o → if_there o (is_at p s row rs fs e) ≡ true → e.row < length rs
      there None at none = cc
      there (Some r) at some = slice_get_within rs e.row r at

  module _ (n : ℕ) (x : StopRow) (at_row : slice_get rs n ≡ Some x) where
    -- what an event says beside its run
    abbrev says : ℕ → Event → Bool
    says k e = (row.service_id.0 == k) && (e.trip.0 == t) && (e.row == n) && (x.stop_sequence == e.seq) && (passes_at (trip_of p row rs fs) e.run (stop_row_of p x) == e.at)

    event_if : (k : ℕ) (e : Event) → ((e.trip.0 == t) && (e.row == n) && is_event_of p s k e) ≡ (is_run (trip_of p row rs fs) e.run && leaves_here p s row rs fs x && says k e)
    event_if k e =
        let service = row.service_id.0 == k in
        let runs = is_run (trip_of p row rs fs) e.run in
        leaves_if (e.trip.0 == t) (e.row == n) (nat_lt k (length p.services)) (is_event (content_of_parts p) (text_of_number (stop_ids p) s) (text_of_number (service_ids p) k) e)
        service runs (x.stop_sequence == e.seq) (is_departure_row (trip_of p row rs fs) (stop_row_of p x))
        (get_or (members (content_of_parts p) (text_of_number (stop_ids p) s)) x.stop_id.0 false) (passes_at (trip_of p row rs fs) e.run (stop_row_of p x) == e.at)
        (λ inside trip numbered. own_event k e inside trip ∙ ap (λ o. service && runs && if_there o (is_at p s row rs fs e)) (ap (slice_get rs) (eqb-true e.row n numbered) ∙ at_row))
        (λ own. lt-ltb k (length p.services) (subst (λ m. m < length p.services) (eqb-true row.service_id.0 k own) (trip_service p sound t row at_trip)))

    -- the steps of the code
    pub row_pushed : (k : ℕ) (e : Event) (starts : List ℕ) → leaves_here p s row rs fs x ≡ true → ((r : ℕ) → tally (λ y. r == y) starts ≡ cond (is_run (trip_of p row rs fs) r) 1 0)
        → tally (is_served k e) (map (served_at p row rs fs t n x) starts) ≡ cond ((e.trip.0 == t) && (e.row == n) && is_event_of p s k e) 1 0
    row_pushed k e starts boards runs =
        told (λ r. passes_at (trip_of p row rs fs) r (stop_row_of p x)) row.service_id t x.stop_sequence n k e starts
        (is_run (trip_of p row rs fs) e.run) (leaves_here p s row rs fs x) ((e.trip.0 == t) && (e.row == n) && is_event_of p s k e) (event_if k e) boards (runs e.run)

    pub row_left : (k : ℕ) (e : Event) → leaves_here p s row rs fs x ≡ false → ((e.trip.0 == t) && (e.row == n) && is_event_of p s k e) ≡ false
    row_left k e stays = untold (is_run (trip_of p row rs fs) e.run) (leaves_here p s row rs fs x) (says k e) ((e.trip.0 == t) && (e.row == n) && is_event_of p s k e) (event_if k e) stays

-- the row of an event of a trip is one of the trip's
pub row_of_trip : (p : Parts) (sound : IsSoundParts p) (s t k : ℕ) (rs : List StopRow) (e : Event) → slice_get (stop_rows_by_trip p) t ≡ Some rs
    → ((e.trip.0 == t) && is_event_of p s k e) ≡ true → e.row < length rs
row_of_trip p sound s t k rs e at_rows holds =
    let within : t < length p.trips = omega (arith, slice_get_within (stop_rows_by_trip p) t rs at_rows, length-parts p.stop_times.starts p.stop_times.rows, sound.stop_rows.0) in
    let periods : t < length (frequencies_by_trip p) = omega (arith, within, length-parts p.frequency_starts p.frequencies, sound.frequencies.0) in
    let some = some_of p.trips t within in
    row_known p sound s t (get_or p.trips t some) rs (get_or (frequencies_by_trip p) t []) (slice_get-get_or p.trips t some within) at_rows
    (slice_get-get_or (frequencies_by_trip p) t [] periods) (stop_times p sound t rs at_rows).stops k e holds

-- ---- past the last trip

pub trip_known : (p : Parts) (s k : ℕ) (e : Event) → is_event_of p s k e ≡ true → e.trip.0 < length p.trips
trip_known p s k e holds = elim (cases_Bool (nat_lt e.trip.0 (length p.trips))) [
  | inl is ↦ ltb-true e.trip.0 (length p.trips) is
  | inr isnt ↦
      let event = is_event (content_of_parts p) (text_of_number (stop_ids p) s) (text_of_number (service_ids p) k) e in
      let none = no_event p (text_of_number (stop_ids p) s) (text_of_number (service_ids p) k) e (ltb-false e.trip.0 (length p.trips) isnt) in
      absurd (never (sym none ∙ (and_parts (nat_lt k (length p.services)) event holds).1))
]
  where
    never : false ≡ true → ⊥
    never h = cc

-- ---- when the vehicle of a stop time leaves

later : (first arrival departure : Option ℕ) → IfSome first (λ a. IfSome (option_or arrival departure) (λ b. a ≤ b)) → IfSome arrival (λ a. IfSome departure (λ b. a ≤ b))
    → is_some (option_or departure arrival) ≡ true → unwrap_or first 0 ≤ unwrap_or (option_or departure arrival) 0
later None arrival departure on stays timed = omega arith
later (Some a) None None on stays timed = cc
later (Some a) None (Some b) on stays timed = on
later (Some a) (Some b) None on stays timed = on
later (Some a) (Some b) (Some c) on stays timed = omega (arith, on, stays)

-- no stop time is left before the first
pub leaves_later : (p : Parts) (rs : List StopRow) → AreStopTimes p rs → (n : ℕ) (d : StopRow) → n < length rs → is_some (left_at (get_or rs n d)) ≡ true
    → unwrap_or (left_at (get_or rs 0 d)) 0 ≤ unwrap_or (left_at (get_or rs n d)) 0
leaves_later p rs are zero d within timed = omega arith
leaves_later p rs are (suc n) d within timed =
    later (left_at (get_or rs 0 d)) (get_or rs (suc n) d).arrival_time (get_or rs (suc n) d).departure_time (are.run_on 0 (suc n) d (omega arith) within) (are.stay (suc n) d within) timed

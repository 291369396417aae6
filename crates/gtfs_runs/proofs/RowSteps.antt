-- What one departure row adds, and what several add one after the other.
use Rattle.std.proofs.Common.{◌≡◌, ◌<◌, ◌+◌, ◌++◌, ◌∙◌, ◌==◌, ℕ, Bool, true, false, cond, List, [], ◌∷◌, Some, length, map, get_or, refl, sym, ap, subst, arith, append_assoc}
use Rattle.std.specs.Prelude.{option_map, unwrap_or}
use Rattle.std.specs.List.{All, slice_get}
use Rattle.std.proofs.lemmas.List.{append-nil, map-append}
use Rattle.std.proofs.lemmas.List.Elements.{All-push}
use Rattle.std.proofs.lemmas.Option.{get_or_from_slice_get, slice_get-get_or}
use Rattle.gtfs_field.proofs.ListFacts.{some_of}
use Rattle.gtfs_rows.proofs.NumberFacts.{trip_service}
use Rattle.gtfs_rows.proofs.TripsAt.{content_trip}
use Rattle.gtfs_rows.specs.Content.{Content}
use Rattle.gtfs_rows.specs.Rows as content
use Rattle.gtfs_rows.specs.Trips.{frequencies_by_trip, stop_rows_by_trip}
use Rattle.gtfs_rows.specs.RowsInMemory.{IsSoundParts, content_of_parts, frequency_of, trip_of}
use Rattle.gtfs_rows.specs.declared.frequency.Frequency.{Frequency}
use Rattle.gtfs_rows.specs.declared.parts.Parts.{Parts}
use Rattle.gtfs_times.proofs.FilledContent.{sound-timed}
use Rattle.gtfs_times.specs.TimedRows.{timed_parts}
use Rattle.gtfs_runs.specs.LaneKinds.{IsPeriodLane}
use Rattle.gtfs_runs.specs.StopLanes.{LaneValue}
use Rattle.gtfs_runs.specs.declared.event.Event.{Event}
use Rattle.gtfs_runs.specs.declared.departure_row.DepartureRow.{DepartureRow}
use Rattle.gtfs_runs.specs.declared.stop_lanes.listed.ListedEvent.{ListedEvent}
use Rattle.gtfs_runs.specs.steps.Courses.{AreServed, event_of, stopping_of}
use Rattle.gtfs_runs.specs.steps.FoundEvents.{times_passed_in, times_told}
use Rattle.gtfs_runs.specs.steps.TripGroups.{trip_group}
use Rattle.gtfs_runs.specs.steps.Passings.{first_left, passing_event}
use Rattle.gtfs_runs.specs.steps.FoundAtRow.{AreAdded, row_lanes, row_passing, row_periods, row_stopping, row_told, sum_over}
use Rattle.gtfs_runs.proofs.RowFinds.{lanes, stoppings, stoppings-append, sum-append}
use Rattle.gtfs_runs.proofs.TripTimes.{none_left, rows_at}

-- one that stands nowhere
abbrev pub no_row : DepartureRow
no_row = record { trip = 0; row = 0; left = 0; sequence = 0; rank = 0 }

-- ---- one row

-- its event, where its trip has no frequencies
pub event_added : (p : Parts) (row : DepartureRow) (x : ListedEvent) (old new : List ListedEvent) (periods : List LaneValue) → (length (row_periods p row) == 0) ≡ true
    → event_of x ≡ passing_event row.trip (first_left (get_or (stop_rows_by_trip p) row.trip [])) (row_passing p row) → x.service ≡ (trip_group p row.trip).0 → new ≡ old ++ x ∷ []
    → AreAdded p (row ∷ []) old new periods periods
event_added p row x old new periods once event service pushed =
    let none : row_periods p row ≡ [] = none_left (row_periods p row) once in
    let one : stopping_of p x ≡ row_stopping p row =
    λ i. record { course = record { service = (trip_group p (event i).trip.0).0; row = (event i).row; stops = (trip_group p (event i).trip.0).1 }; event = event i } in
    record {
      events = ap (map (stopping_of p)) pushed ∙ map-append (stopping_of p) old (x ∷ []) ∙ ap (λ y. map (stopping_of p) old ++ y ∷ []) one
          ∙ ap (λ b. map (stopping_of p) old ++ map (row_stopping p) (cond b (row ∷ []) [])) (sym once);
      services = λ were. subst (AreServed p) (sym pushed) (All-push (λ y. (trip_group p y.trip).0 ≡ y.service) old x were (ap (λ e. (trip_group p e.trip.0).0) event ∙ sym service));
      told = λ k e. no_more (times_told k e periods) (row_told p k e row) (ap (λ fs. cond ((trip_group p row.trip).0 == k) (times_passed_in row.trip e (row_passing p row ∷ []) fs) 0) none ∙ nothing ((trip_group p row.trip).0 == k));
      counted = no_more (length periods) (length (row_periods p row)) (ap length none);
      within = λ were. were;
      runs = λ times were. were;
    }
  where
    no_more : (n m : ℕ) → m ≡ 0 → n ≡ n + (m + 0)
    no_more n m none = omega (arith, none)

    nothing : (b : Bool) → ◌≡◌ {A = ℕ} (cond b 0 0) 0
    nothing true = refl
    nothing false = refl

-- its lanes, where it has some
pub periods_added : (p : Parts) → IsSoundParts p → (row : DepartureRow) (service : ℕ) (fs : List Frequency) (listed : List ListedEvent) (before after : List LaneValue) → row.trip < length p.trips
    → service ≡ (trip_group p row.trip).0 → slice_get (frequencies_by_trip p) row.trip ≡ Some fs → (length fs == 0) ≡ false
    → ((k : ℕ) (e : Event) → times_told k e after ≡ times_told k e before + cond (service == k) (times_passed_in row.trip e (row_passing p row ∷ []) fs) 0)
    → length after ≡ length before + length fs
    → ((n : ℕ) → service < n → All (λ lane. lane.service < n) before → All (λ lane. lane.service < n) after)
    → ((c : Content) (v : content.Trip) → slice_get c.trips row.trip ≡ Some v → v.frequencies ≡ map frequency_of fs → All (IsPeriodLane c) before → All (IsPeriodLane c) after)
    → AreAdded p (row ∷ []) listed listed before after
periods_added p sound row service fs listed before after inside serves at several told counted within kind =
    let t = row.trip in
    let some = some_of p.trips t inside in
    let u = get_or p.trips t some in
    let at_trip : slice_get p.trips t ≡ Some u = slice_get-get_or p.trips t some inside in
    let group : (trip_group p t).0 ≡ u.service_id.0 = ap (λ o. unwrap_or (option_map (λ v. v.service_id.0) o) 0) at_trip in
    let same : fs ≡ row_periods p row = sym (get_or_from_slice_get (frequencies_by_trip p) t fs [] at) in
    record {
      events = sym (append-nil (map (stopping_of p) listed))
          ∙ ap (λ b. map (stopping_of p) listed ++ map (row_stopping p) (cond b (row ∷ []) [])) (sym (ap (λ l. length l == 0) (sym same) ∙ several));
      services = λ were. were;
      told = λ k e. one (times_told k e before) (told k e) (λ i. cond (serves i == k) (times_passed_in t e (row_passing p row ∷ []) (same i)) 0);
      counted = once (length before) (length fs) counted (ap length same);
      within = within (length p.services) (subst (λ n. n < length p.services) (sym (serves ∙ group)) (trip_service p sound t u at_trip));
      runs = λ times.
          let q = timed_parts times p in
          let fair = sound-timed p sound times in
          let rs = get_or (stop_rows_by_trip q) t [] in
          kind (content_of_parts q) (trip_of q u rs fs) (content_trip q t u rs fs at_trip (rows_at q fair t inside) at) refl;
    }
  where
    one : (a : ℕ) {m n c : ℕ} → c ≡ a + m → m ≡ n → c ≡ a + (n + 0)
    one a is same = omega (arith, is, same)

    once : (a b : ℕ) {c n : ℕ} → c ≡ a + b → b ≡ n → c ≡ a + (n + 0)
    once a b is same = omega (arith, is, same)

-- ---- several rows

pub none_added : (p : Parts) (listed : List ListedEvent) (periods : List LaneValue) → AreAdded p [] listed listed periods periods
none_added p listed periods = record {
  events = sym (append-nil (map (stopping_of p) listed));
  services = λ were. were;
  told = λ k e. no_more (times_told k e periods);
  counted = no_more (length periods);
  within = λ were. were;
  runs = λ times were. were;
}
  where
    no_more : (n : ℕ) → n ≡ n + 0
    no_more n = omega arith

pub more_added : (p : Parts) (xs ys : List DepartureRow) (old mid new : List ListedEvent) (before between after : List LaneValue) → AreAdded p xs old mid before between → AreAdded p ys mid new between after
    → AreAdded p (xs ++ ys) old new before after
more_added p xs ys old mid new before between after first second = record {
  events = second.events ∙ ap (λ l. l ++ stoppings p ys) first.events ∙ append_assoc (map (stopping_of p) old) (stoppings p xs) (stoppings p ys) ∙ ap (λ l. map (stopping_of p) old ++ l) (sym (stoppings-append p xs ys));
  services = λ were. second.services (first.services were);
  told = λ k e. sums (times_told k e before) (sum_over (row_told p k e) xs) (sum_over (row_told p k e) ys) (sum_over (row_told p k e) (xs ++ ys)) (first.told k e) (second.told k e) (sum-append (row_told p k e) xs ys);
  counted = sums (length before) (lanes p xs) (lanes p ys) (lanes p (xs ++ ys)) first.counted second.counted (sum-append (row_lanes p) xs ys);
  within = λ were. second.within (first.within were);
  runs = λ times were. second.runs times (first.runs times were);
}
  where
    sums : (a x y both : ℕ) {m n : ℕ} → m ≡ a + x → n ≡ m + y → both ≡ x + y → n ≡ a + both
    sums a x y both one two sum = omega (arith, one, two, sum)

-- Which events the content of sound parts has, by the rows and the numbers that the code reads.
use Rattle.std.proofs.Common.{◌≡◌, ◌≤◌, ◌<◌, ◌∙◌, ◌&&◌, ℕ, zero, suc, Bool, false, List, [], ◌∷◌, length, map, get_or, Some, None, refl, sym, ap, arith}
use Rattle.std.specs.Prelude.{◌==◌, bytes_eq}
use Rattle.std.specs.List.{All, slice_get}
use Rattle.std.proofs.lemmas.List.Elements.{All-head, All-tail}
use Rattle.gtfs_schema.specs.FieldValues.{if_there}
use Rattle.gtfs_rows.specs.Rows as content
use Rattle.gtfs_rows.specs.declared.frequency.Frequency.{Frequency}
use Rattle.gtfs_rows.specs.declared.parts.Parts.{Parts}
use Rattle.gtfs_stop_times.specs.declared.stop_row.StopRow.{StopRow}
use Rattle.gtfs_rows.specs.declared.trip.Trip.{Trip}
use Rattle.gtfs_rows.specs.RowsInMemory.{IsSoundParts, content_of_parts, service_ids, stop_ids, stop_row_of, text_of_number, trip_of, trips_of}
use Rattle.gtfs_rows.specs.Trips.{frequencies_by_trip, stop_rows_by_trip}
use Rattle.gtfs_rows.proofs.NumberFacts.{trip_service}
use Rattle.gtfs_rows.proofs.TripsAt.{content_trip}
use Rattle.gtfs_runs.specs.Events.{is_event}
use Rattle.gtfs_rows.specs.Places.{is_in_place, members}
use Rattle.gtfs_rows.specs.Runs.{is_departure_row, is_run, passes_at}
use Rattle.gtfs_runs.specs.declared.event.Event.{Event}
use Rattle.gtfs_runs.proofs.ContentRows.{flag_at, same_service}

-- what is asked of the row at a position is asked of the stop time there
pub row_at : {X Y : Type 0} (f : X → Y) (P : X → Type 0) (q : Y → Bool) (r : X → Bool) (xs : List X) (n : ℕ) → All P xs → ((x : X) → P x → q (f x) ≡ r x)
    → if_there (slice_get (map f xs) n) q ≡ if_there (slice_get xs n) r
row_at f P q r [] n all same = refl
row_at f P q r (x ∷ xs) zero all same = same x (All-head P x xs all)
row_at f P q r (x ∷ xs) (suc n) all same = row_at f P q r xs n (All-tail P x xs all) same

-- past the trips there is none
pub past_trips : (p : Parts) (ts : List Trip) (rs : List (List StopRow)) (fs : List (List Frequency)) (t : ℕ) → length ts ≤ t → slice_get (trips_of p ts rs fs) t ≡ None
past_trips p [] rs fs t past = refl
past_trips p (u ∷ ts) [] fs t past = refl
past_trips p (u ∷ ts) (r ∷ rs) [] t past = refl
past_trips p (u ∷ ts) (r ∷ rs) (f ∷ fs) zero past = absurd (omega arith)
past_trips p (u ∷ ts) (r ∷ rs) (f ∷ fs) (suc t) past = past_trips p ts rs fs t (omega arith)

pub no_event : (p : Parts) (s service : List ℕ) (e : Event) → length p.trips ≤ e.trip.0 → is_event (content_of_parts p) s service e ≡ false
no_event p s service e past =
    let c = content_of_parts p in
    ap (λ o. if_there o (λ t. bytes_eq t.service_id service && is_run t e.run
    && if_there (slice_get t.stop_rows e.row) (λ row. (row.stop_sequence == e.seq) && is_departure_row t row && is_in_place c s row.stop_id && (passes_at t e.run row == e.at))))
    (past_trips p p.trips (stop_rows_by_trip p) (frequencies_by_trip p) e.trip.0 past)

module _ (p : Parts) where
  -- the event is that of this stop time, at the place with these flags
  abbrev pub is_at : ℕ → Trip → List StopRow → List Frequency → Event → StopRow → Bool
  is_at s row rs fs e r =
      (r.stop_sequence == e.seq) && is_departure_row (trip_of p row rs fs) (stop_row_of p r)
      && get_or (members (content_of_parts p) (text_of_number (stop_ids p) s)) r.stop_id.0 false && (passes_at (trip_of p row rs fs) e.run (stop_row_of p r) == e.at)

  -- the event of a trip belongs to the trip's service, one of its runs and one of its stop times
  pub event_is : (sound : IsSoundParts p) (s k : ℕ) (row : Trip) (rs : List StopRow) (fs : List Frequency) (e : Event) → k < length p.services
      → slice_get p.trips e.trip.0 ≡ Some row → slice_get (stop_rows_by_trip p) e.trip.0 ≡ Some rs → slice_get (frequencies_by_trip p) e.trip.0 ≡ Some fs
      → All (λ r. r.stop_id.0 < length p.stops) rs
      → is_event (content_of_parts p) (text_of_number (stop_ids p) s) (text_of_number (service_ids p) k) e
      ≡ ((row.service_id.0 == k) && is_run (trip_of p row rs fs) e.run && if_there (slice_get rs e.row) (is_at s row rs fs e))
  event_is sound s k row rs fs e within at_trip at_rows at_periods known =
      let c = content_of_parts p in
      let id = text_of_number (stop_ids p) s in
      let service = text_of_number (service_ids p) k in
      let t = trip_of p row rs fs in
      let asked : content.Trip → content.StopRow → Bool = λ u r. (r.stop_sequence == e.seq) && is_departure_row u r && is_in_place c id r.stop_id && (passes_at u e.run r == e.at) in
      ap (λ o. if_there o (λ u. bytes_eq u.service_id service && is_run u e.run && if_there (slice_get u.stop_rows e.row) (asked u)))
      (content_trip p e.trip.0 row rs fs at_trip at_rows at_periods)
      ∙ (λ i. same_service p sound row.service_id.0 k (trip_service p sound e.trip.0 row at_trip) within i && is_run t e.run
      && row_at (stop_row_of p) (λ r. r.stop_id.0 < length p.stops) (asked t) (is_at s row rs fs e) rs e.row known
      (λ r h. ap (λ b. (r.stop_sequence == e.seq) && is_departure_row t (stop_row_of p r) && b && (passes_at t e.run (stop_row_of p r) == e.at)) (sym (flag_at p s r.stop_id.0 h))) i)

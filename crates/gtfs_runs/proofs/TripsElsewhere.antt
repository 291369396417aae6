-- The departure rows at a place, of the trips of a feed: those of one trip, and a trip without a stop time there has none.
use Rattle.std.proofs.Common.{◌≡◌, ◌≤◌, ◌<◌, ◌+◌, ◌++◌, ◌∙◌, ◌∷◌, ◌&&◌, ◌==◌, [], ℕ, zero, suc, Bool, true, false, cond, List, length, get_or, Some, refl, sym, ap, subst, arith, inl, inr}
use Rattle.std.specs.Prelude.{◌||◌, unwrap_or}
use Rattle.std.specs.List.{All, list_any, slice_get}
use Rattle.std.proofs.lemmas.Bool.{cases_Bool, eqb-true, or_parts}
use Rattle.std.proofs.lemmas.List.Elements.{All-push}
use Rattle.std.proofs.lemmas.Option.{slice_get-get_or}
use Rattle.gtfs_schema.specs.FieldValues.{if_there}
use Rattle.gtfs_field.proofs.ListFacts.{some_of}
use Rattle.gtfs_table.proofs.PartFacts.{length-parts}
use Rattle.gtfs_rows.specs.Places.{members}
use Rattle.gtfs_rows.specs.Runs.{is_departure_row}
use Rattle.gtfs_rows.specs.Trips.{frequencies_by_trip, stop_rows_by_trip}
use Rattle.gtfs_stop_times.specs.RowTimes.{left_at}
use Rattle.gtfs_rows.specs.RowsInMemory.{IsSoundParts, content_of_parts, stop_ids, stop_row_of, text_of_number, trip_of}
use Rattle.gtfs_rows.specs.declared.frequency.Frequency.{Frequency}
use Rattle.gtfs_rows.specs.declared.parts.Parts.{Parts}
use Rattle.gtfs_rows.specs.declared.trip.Trip.{Trip}
use Rattle.gtfs_stop_times.specs.StopTimesByTrip.{is_at}
use Rattle.gtfs_stop_times.specs.declared.stop_row.StopRow.{StopRow}
use Rattle.gtfs_times.proofs.FilledContent.{sound-timed}
use Rattle.gtfs_times.specs.TimedRows.{timed_parts, timed_stop_times}
use Rattle.gtfs_times.specs.declared.times.Times.{Times}
use Rattle.gtfs_runs.specs.Tallies.{tally}
use Rattle.gtfs_runs.specs.StopIndex.{is_this_row}
use Rattle.gtfs_runs.specs.declared.departure_row.DepartureRow.{DepartureRow}
use Rattle.gtfs_stop_times.specs.StopLists.{stops_in}
use Rattle.gtfs_runs.specs.steps.NotedRows.{noted_row}
use Rattle.gtfs_runs.specs.steps.Passings.{leaves}
use Rattle.gtfs_runs.specs.steps.PlaceRows.{departs_in_place}
use Rattle.gtfs_runs.specs.steps.FoundAtRow.{IsInside}
use Rattle.gtfs_runs.proofs.AtStopFacts.{alone, asked_here, never}
use Rattle.gtfs_runs.proofs.PlaceRows.{in_place_of}
use Rattle.gtfs_runs.proofs.Tallies.{kept, tally-push}
use Rattle.gtfs_runs.proofs.TimedTrips.{rows_timed, stops_timed}

-- ---- one stop time

-- the list gets one more
pub here_added : (q : StopRow → Bool) (rows : List StopRow) (t k n : ℕ) (d y : StopRow) (x : DepartureRow) (old new : List DepartureRow) → n < length rows → q (get_or rows n d) ≡ true
    → x ≡ noted_row t k n y → new ≡ old ++ x ∷ [] → (v r : ℕ) → tally (is_this_row v r) new ≡ tally (is_this_row v r) old + cond ((v == t) && (r == n) && if_there (slice_get rows r) q) 1 0
here_added q rows t k n d y x old new within leaves is pushed v r =
    ap (tally (is_this_row v r)) pushed ∙ tally-push (is_this_row v r) old x ∙ (λ i. tally (is_this_row v r) old + cond (is_this_row v r (is i)) 1 0)
    ∙ ap (λ b. tally (is_this_row v r) old + cond b 1 0)
    (sym (alone ((v == t) && (r == n))) ∙ ap (λ b. (v == t) && (r == n) && b) (sym leaves) ∙ sym (asked_here (v == t) q rows n r d within))

-- or stays as it is
pub here_passed : (q : StopRow → Bool) (rows : List StopRow) (t n : ℕ) (d : StopRow) (old new : List DepartureRow) → n < length rows → q (get_or rows n d) ≡ false → new ≡ old
    → (v r : ℕ) → tally (is_this_row v r) new ≡ tally (is_this_row v r) old + cond ((v == t) && (r == n) && if_there (slice_get rows r) q) 1 0
here_passed q rows t n d old new within stays same v r =
    ap (tally (is_this_row v r)) same
    ∙ kept (tally (is_this_row v r) old) _ (asked_here (v == t) q rows n r d within ∙ ap (λ b. (v == t) && (r == n) && b) stays ∙ never ((v == t) && (r == n)))

-- it leaves before 999:59:59
pub inside_push : (p : Parts) (t k n : ℕ) (y : StopRow) (x : DepartureRow) (old new : List DepartureRow) → t < length p.trips → unwrap_or (left_at y) 0 ≤ 3_599_999 → x ≡ noted_row t k n y → new ≡ old ++ x ∷ []
    → All (IsInside p) old → All (IsInside p) new
inside_push p t k n y x old new within bound is pushed were =
    subst (All (IsInside p)) (sym pushed) (All-push (IsInside p) old x were (subst (IsInside p) (sym is) (within, bound)))

-- ---- one trip

-- what is asked of stop times rests on their stops alone
any-stops : (place : List Bool) (rs : List StopRow) → list_any (is_at place) rs ≡ list_any (λ n. get_or place n false) (stops_in rs)
any-stops place [] = refl
any-stops place (r ∷ rs) = ap (λ b. get_or place r.stop_id.0 false || b) (any-stops place rs)

-- with their times filled they are as little at the place
none-timed : (choice : Times) (place : List Bool) (own : List StopRow) → list_any (is_at place) own ≡ false → list_any (is_at place) (timed_stop_times choice own) ≡ false
none-timed choice place own none =
    any-stops place (timed_stop_times choice own) ∙ ap (list_any (λ n. get_or place n false)) (stops_timed choice own) ∙ sym (any-stops place own) ∙ none

module _ (q : Parts) (s : ℕ) (row : Trip) (rs : List StopRow) (fs : List Frequency) (place : List Bool) (here : place ≡ members (content_of_parts q) (text_of_number (stop_ids q) s)) where
  -- none of these leaves the place
  none-there : (n r : ℕ) (xs : List StopRow) → list_any (is_at place) xs ≡ false → if_there (slice_get xs r) (λ x. leaves q s row rs fs (n, x)) ≡ false
  none-there n r [] none = refl
  none-there n zero (x ∷ xs) none =
      let parts = or_parts (is_at place x) (list_any (is_at place) xs) none in
      let departs : Bool = is_departure_row (trip_of q row rs fs) (stop_row_of q x) in
      ap (λ b. departs && b) (ap (λ m. get_or m x.stop_id.0 false) (sym here) ∙ parts.0) ∙ never departs
  none-there n (suc r) (x ∷ xs) none = none-there n r xs (or_parts (is_at place x) (list_any (is_at place) xs) none).1

module _ (choice : Times) (p : Parts) (sound : IsSoundParts p) (s t : ℕ) (within : t < length p.trips) (own : List StopRow)
    (at_own : slice_get (stop_rows_by_trip p) t ≡ Some own) (place : List Bool) (here : place ≡ members (content_of_parts p) (text_of_number (stop_ids p) s)) where
  abbrev q : Parts
  q = timed_parts choice p

  abbrev rs : List StopRow
  rs = timed_stop_times choice own

  at_rows : slice_get (stop_rows_by_trip q) t ≡ Some rs
  at_rows = rows_timed choice p sound t own rs at_own refl

  abbrev row : Trip
  row = get_or p.trips t (some_of p.trips t within)

  at_trip : slice_get p.trips t ≡ Some row
  at_trip = slice_get-get_or p.trips t (some_of p.trips t within) within

  abbrev fs : List Frequency
  fs = get_or (frequencies_by_trip p) t []

  at_periods : slice_get (frequencies_by_trip p) t ≡ Some fs
  at_periods =
      let counted : t < length (frequencies_by_trip p) = omega (arith, within, length-parts p.frequency_starts p.frequencies, sound.frequencies.0) in
      slice_get-get_or (frequencies_by_trip p) t [] counted

  pub none-departs : list_any (is_at place) own ≡ false → (r : ℕ) → departs_in_place q s t r ≡ false
  none-departs none r =
      in_place_of q (sound-timed p sound choice) s t row rs fs at_trip at_rows at_periods r ∙ none-there q s row rs fs place here r r rs (none-timed choice place own none)

  -- what is found of its stop times
  pub place_added : (found : List StopRow) (old new : List DepartureRow) → found ≡ timed_stop_times choice own
      → ((r : Parts) (n v k : ℕ) (u : Trip) (gs : List Frequency) → place ≡ members (content_of_parts r) (text_of_number (stop_ids r) n)
      → tally (is_this_row v k) new ≡ tally (is_this_row v k) old + cond ((v == t) && if_there (slice_get found k) (λ x. leaves r n u found gs (k, x))) 1 0)
      → (v r : ℕ) → tally (is_this_row v r) new ≡ tally (is_this_row v r) old + cond ((v == t) && departs_in_place q s v r) 1 0
  place_added found old new is added v r =
      added q s v r row fs here ∙ ap (λ b. tally (is_this_row v r) old + cond b 1 0) (elim (cases_Bool (v == t)) [
        | inl same ↦
            ap (λ l. (v == t) && if_there (slice_get l r) (λ x. leaves q s row l fs (r, x))) is
            ∙ ap (λ b. (v == t) && b) (sym (in_place_of q (sound-timed p sound choice) s t row rs fs at_trip at_rows at_periods r) ∙ ap (λ n. departs_in_place q s n r) (sym (eqb-true v t same)))
        | inr other ↦ rw other refl
      ])

-- a trip that has none there
pub no_more_there : (n v old new : ℕ) (departs : Bool) → new ≡ old → ((v == n) ≡ true → departs ≡ false) → new ≡ old + cond ((v == n) && departs) 1 0
no_more_there n v old new departs same none = same ∙ kept old _ (elim (cases_Bool (v == n)) [
  | inl is ↦ ap (λ b. (v == n) && b) (none is) ∙ never (v == n)
  | inr isnt ↦ rw isnt refl
])

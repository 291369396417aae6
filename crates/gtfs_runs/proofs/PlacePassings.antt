-- The passings at departure rows of many trips, by what an index notes of them.
use Rattle.std.proofs.Common.{◌≡◌, ◌<◌, ◌∙◌, ℕ, true, List, [], ◌∷◌, None, Some, length, map, get_or, nat_lt, refl, sym, ap, arith}
use Rattle.std.specs.List.{All, slice_get}
use Rattle.std.proofs.lemmas.Bool.{ltb-true}
use Rattle.std.proofs.lemmas.List.Elements.{All-head, All-tail}
use Rattle.std.proofs.lemmas.Option.{get_or_from_slice_get, slice_get-get_or}
use Rattle.gtfs_schema.specs.FieldValues.{if_there}
use Rattle.std.specs.Prelude.{unwrap_or}
use Rattle.gtfs_rows.specs.Trips.{stop_rows_by_trip}
use Rattle.gtfs_stop_times.specs.RowTimes.{left_at}
use Rattle.gtfs_rows.specs.RowsInMemory.{IsSoundParts}
use Rattle.gtfs_rows.specs.declared.parts.Parts.{Parts}
use Rattle.gtfs_stop_times.specs.declared.stop_time_choices.DropOffType.TheVariants as drop_off
use Rattle.gtfs_stop_times.specs.declared.stop_time_choices.PickupType.TheVariants as pickup
use Rattle.gtfs_stop_times.specs.declared.stop_row.StopRow.{StopRow}
use Rattle.gtfs_table.proofs.PartFacts.{length-parts}
use Rattle.gtfs_times.proofs.FilledContent.{sound-timed}
use Rattle.gtfs_times.specs.TimedRows.{timed_parts, timed_stop_times}
use Rattle.gtfs_times.specs.declared.times.Times.{Times}
use Rattle.gtfs_runs.specs.declared.departure_row.DepartureRow.{DepartureRow}
use Rattle.gtfs_runs.specs.steps.NotedRows.{IsNoted, noted_passing}
use Rattle.gtfs_runs.specs.steps.Passings.{first_left}
use Rattle.gtfs_runs.specs.steps.PlaceRows.{IsStopTime, passing_in, passing_of}
use Rattle.gtfs_runs.specs.steps.FoundAtRow.{IsInside, row_passing}
use Rattle.gtfs_runs.proofs.AtStopFacts.{asked_within}
use Rattle.gtfs_runs.proofs.TimedTrips.{first_timed, rows_timed, trip_times}
use Rattle.gtfs_runs.proofs.TripTimes.{rows_at}

-- ---- a stop time, by its trip and position

pub trip_inside : (p : Parts) → IsSoundParts p → (x : DepartureRow) → IsStopTime p x → x.trip < length p.trips
trip_inside p sound x is =
    let here = asked_within true (λ rows. nat_lt x.row (length rows)) (stop_rows_by_trip p) x.trip is in
    omega (arith, here, length-parts p.stop_times.starts p.stop_times.rows, sound.stop_rows.0)

pub row_inside : (p : Parts) (x : DepartureRow) (rs : List StopRow) → IsStopTime p x → slice_get (stop_rows_by_trip p) x.trip ≡ Some rs → x.row < length rs
row_inside p x rs is at = ltb-true x.row (length rs) (sym (ap (λ o. if_there o (λ rows. nat_lt x.row (length rows))) at) ∙ is)

-- one that no trip has
no_stop_time : StopRow
no_stop_time = record {
  stop_id = record { 0 = 0 };
  arrival_time = None;
  departure_time = None;
  stop_sequence = 0;
  stop_headsign = None;
  pickup_type = pickup.Regular;
  drop_off_type = drop_off.Regular;
  timepoint = None;
}

-- ---- the passings of rows

-- of a row that is noted
noted_is : (p : Parts) (x : DepartureRow) (d : StopRow) → IsStopTime p x → IsNoted p x → noted_passing (first_left (get_or (stop_rows_by_trip p) x.trip [])) x ≡ passing_in p d x
noted_is p x d is noted =
    let lists = stop_rows_by_trip p in
    let here = asked_within true (λ rows. nat_lt x.row (length rows)) lists x.trip is in
    let at = slice_get-get_or lists x.trip [] here in
    ap (noted_passing (first_left (get_or lists x.trip []))) (noted (get_or lists x.trip []) d at (row_inside p x (get_or lists x.trip []) is at))

module _ (choice : Times) (p : Parts) (sound : IsSoundParts p) where
  -- the start of its trip, under any choice of times
  start_timed : (x : DepartureRow) → IsStopTime (timed_parts choice p) x
      → first_left (get_or (stop_rows_by_trip p) x.trip []) ≡ first_left (get_or (stop_rows_by_trip (timed_parts choice p)) x.trip [])
  start_timed x is =
      let inside : x.trip < length p.trips = trip_inside (timed_parts choice p) (sound-timed p sound choice) x is in
      let rows = get_or (stop_rows_by_trip p) x.trip [] in
      sym (first_timed choice rows)
      ∙ ap first_left (sym (get_or_from_slice_get (stop_rows_by_trip (timed_parts choice p)) x.trip (timed_stop_times choice rows) [] (rows_timed choice p sound x.trip rows (timed_stop_times choice rows) (rows_at p sound x.trip inside) refl)))

  pub passings_noted : (d : StopRow) (rows : List DepartureRow) → All (IsStopTime (timed_parts choice p)) rows → All (IsNoted (timed_parts choice p)) rows
      → map (row_passing p) rows ≡ map (passing_in (timed_parts choice p) d) rows
  passings_noted d [] are noted = refl
  passings_noted d (x ∷ rows) are noted =
      let q = timed_parts choice p in
      let is = All-head (IsStopTime q) x rows are in
      (λ i. (ap (λ n. noted_passing n x) (start_timed x is) ∙ noted_is q x d is (All-head (IsNoted q) x rows noted)) i
      ∷ passings_noted d rows (All-tail (IsStopTime q) x rows are) (All-tail (IsNoted q) x rows noted) i)

  -- no vehicle leaves after 999:59:59
  pub rows_inside : (rows : List DepartureRow) → All (IsStopTime (timed_parts choice p)) rows → All (IsNoted (timed_parts choice p)) rows → All (IsInside p) rows
  rows_inside rows are noted k d within =
      let q = timed_parts choice p in
      let x = get_or rows k d in
      let is = are k d within in
      let fair = sound-timed p sound choice in
      let lists = stop_rows_by_trip q in
      let here = asked_within true (λ rows. nat_lt x.row (length rows)) lists x.trip is in
      let own = get_or lists x.trip [] in
      let at = slice_get-get_or lists x.trip [] here in
      let inside = row_inside q x own is at in
      let to = (trip_times q fair x.trip own at).to x.row no_stop_time inside in
      let left : x.left ≡ unwrap_or (left_at (get_or own x.row no_stop_time)) 0 = ap (λ z. z.left) (noted k d within own no_stop_time at inside) in
      (trip_inside q fair x is, omega (arith, to, left))

-- ---- rows of one trip

module _ (p : Parts) (t : ℕ) (rs : List StopRow) (at : slice_get (stop_rows_by_trip p) t ≡ Some rs) where
  passing_here : (d : StopRow) (x : DepartureRow) → x.trip ≡ t → passing_in p d x ≡ passing_of rs d x
  passing_here d x is = ap (λ l. passing_of l d x) (ap (λ n. get_or (stop_rows_by_trip p) n []) is ∙ get_or_from_slice_get (stop_rows_by_trip p) t rs [] at)

  pub of_one_trip : (d : StopRow) (xs : List DepartureRow) → All (λ x. x.trip ≡ t) xs → map (passing_in p d) xs ≡ map (passing_of rs d) xs
  of_one_trip d [] all = refl
  of_one_trip d (x ∷ xs) all = λ i. passing_here d x (All-head (λ z. z.trip ≡ t) x xs all) i ∷ of_one_trip d xs (All-tail (λ z. z.trip ≡ t) x xs all) i

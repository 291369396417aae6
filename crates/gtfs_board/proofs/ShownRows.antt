-- What the code shows of a candidate's rows.
use Rattle.std.proofs.Common.{◌≡◌, ◌<◌, ℕ, ◌&&◌, List, [], length, Some, sym, ap, subst, ◌∙◌, unwrap_or}
use Rattle.std.specs.Prelude.{◌==◌, not, All, IfSome, is_some, option_map, option_and_then, slice_get}
use Rattle.std.specs.List.{list_any}
use Rattle.std.specs.Option.{option_or}
use Rattle.std.proofs.lemmas.Option.{get_or_from_slice_get, slice_get_within}
use Rattle.gtfs_field.proofs.ListFacts.{any_mapped, mapped_at as at_map}
use Rattle.gtfs_rows.proofs.TripFacts.{stop_times}
use Rattle.gtfs_rows.proofs.TripsAt.{content_trip}
use Rattle.gtfs_rows.specs.Trips.{frequencies_by_trip, stop_rows_by_trip}
use Rattle.gtfs_stop_times.specs.RowTimes.{left_at}
use Rattle.gtfs_rows.specs.Rows.{Frequency, Route}
use Rattle.gtfs_rows.specs.RowsInMemory.{IsSoundParts, content_of_parts, frequency_of, route_ids, route_of, stop_ids, stop_row_of, text_of_number, trip_of}
use Rattle.gtfs_rows.specs.declared.frequency.Frequency.{Frequency as PeriodRow}
use Rattle.gtfs_rows.specs.declared.parts.Parts.{Parts}
use Rattle.gtfs_rows.specs.declared.route.Route.{Route as RouteRow}
use Rattle.gtfs_stop_times.specs.declared.stop_row.StopRow.{StopRow as StopTime}
use Rattle.gtfs_rows.specs.declared.trip.Trip.{Trip as TripRow}
use Rattle.gtfs_runs.proofs.Bounds.{periods_within}
use Rattle.gtfs_rows.specs.Runs.{starts_run}
use Rattle.gtfs_board.specs.BoardLines.{Listed}
use Rattle.gtfs_board.specs.ShownCandidates.{candidate_key, listed_in, candidate_trip}
use Rattle.gtfs_board.specs.ShownTrips.{mark_if, name_of_route, route_name, shown_at}
use Rattle.gtfs_board.specs.declared.upcoming.candidate.Candidate.{Candidate}
use Rattle.gtfs_runs.proofs.TripIds.{text_at}
use Rattle.gtfs_board.proofs.Opened.{found_id, listed_at}

module _ (p : Parts) (sound : IsSoundParts p) where
  pub route_found : (n : ℕ) (r : RouteRow) → slice_get p.routes n ≡ Some r → route_name (content_of_parts p) (text_of_number (route_ids p) n) ≡ unwrap_or (option_or r.route_short_name r.route_long_name) []
  route_found n r at =
      let f = content_of_parts p in
      let id = text_at (λ x. x.route_id) p.routes n r at in
      let found = found_id (λ (x : Route). x.route_id) f.routes n (route_of p r) sound.content.in_order.routes (at_map (route_of p) p.routes n r at) in
      ap (route_name f) id ∙ ap (λ o. unwrap_or (option_and_then name_of_route o) []) found

  pub stop_within : (n : ℕ) (rs : List StopTime) (k : ℕ) (r : StopTime) → slice_get (stop_rows_by_trip p) n ≡ Some rs → slice_get rs k ≡ Some r
      → (r.stop_id.0 < length p.stops) × IfSome r.stop_headsign (λ h. h < length p.headsigns)
  stop_within n rs k r at_rows at =
      let times = stop_times p sound n rs at_rows in
      let inside = slice_get_within rs k r at in
      let same = get_or_from_slice_get rs k r r at in (
        subst (λ (x : StopTime). x.stop_id.0 < length p.stops) same (times.stops k r inside),
        subst (λ (x : StopTime). IfSome x.stop_headsign (λ h. h < length p.headsigns)) same (times.headsigns k r inside),
      )

  pub periods_move : (n : ℕ) (row : TripRow) (rs : List StopTime) (fs : List PeriodRow) → slice_get p.trips n ≡ Some row → slice_get (stop_rows_by_trip p) n ≡ Some rs → slice_get (frequencies_by_trip p) n ≡ Some fs
      → All (λ f. 0 < f.headway_secs) fs
  periods_move n row rs fs at_trip at_rows at_periods k d within = (periods_within p sound n row rs fs at_trip at_rows at_periods k d within).moves

  -- what is shown of the rows that the numbers of a candidate name
  pub shown_rows : (c : Candidate) (row : TripRow) (rs : List StopTime) (fs : List PeriodRow) (r : StopTime) (way : RouteRow) (d : Listed)
      → slice_get p.trips c.trip ≡ Some row → slice_get (stop_rows_by_trip p) c.trip ≡ Some rs → slice_get (frequencies_by_trip p) c.trip ≡ Some fs
      → slice_get rs c.row ≡ Some r → slice_get p.routes row.route_id.0 ≡ Some way
      → d.key ≡ candidate_key p c → d.stop ≡ text_of_number (stop_ids p) r.stop_id.0 → d.route ≡ unwrap_or (option_or way.route_short_name way.route_long_name) []
      → d.headsign ≡ unwrap_or (option_or (option_map (text_of_number p.headsigns) r.stop_headsign) row.trip_headsign) []
      → d.mark ≡ mark_if (list_any (λ q. starts_run (frequency_of q) c.run && ((frequency_of q).exact_times == 0)) fs) (not (is_some (left_at r)))
      → d ≡ listed_in p c
  shown_rows c row rs fs r way d at_trip at_rows at_periods at at_route key stop route sign mark =
      let t = trip_of p row rs fs in
      let x = stop_row_of p r in
      let trip : candidate_trip p c ≡ Some t = content_trip p c.trip row rs fs at_trip at_rows at_periods in
      let time : slice_get t.stop_rows c.row ≡ Some x = at_map (stop_row_of p) rs c.row r at in
      let name = route ∙ sym (route_found row.route_id.0 way at_route) in
      let marks = mark ∙ ap (λ b. mark_if b (not (is_some (left_at r)))) (sym (any_mapped (λ (q : Frequency). starts_run q c.run && (q.exact_times == 0)) frequency_of fs)) in
      let is : d ≡ shown_at (content_of_parts p) (candidate_key p c) t x = λ i. record { key = key i; stop = stop i; route = name i; headsign = sign i; mark = marks i } in
      is ∙ sym (listed_at p c t x trip time)

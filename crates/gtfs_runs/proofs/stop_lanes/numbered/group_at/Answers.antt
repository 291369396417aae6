use Rattle.std.proofs.Common.{rules, of_calls, ◌≡◌, ◌∙◌, ◌++◌, Bool, List, [], ◌∷◌, get_or, sym, ap}
use Rattle.std.specs.Ordering.{is_lt}
use Rattle.std.proofs.lemmas.List.{get_or_default}
use Rattle.std.proofs.lemmas.List.Sorted.{IsPartitionPoint-from_clause}
use Rattle.std.proofs.lemmas.Option.{get_or_from_slice_get}
use Rattle.std.proofs.lemmas.Result.{IfOk-weaker}
use Rattle.gtfs_rows.specs.Trips.{stop_rows_by_trip}
use Rattle.gtfs_runs.specs.steps.TripGroups.{GroupedTripValue, below, group_cmp, group_of, trip_group}
use Rattle.gtfs_stop_times.specs.StopLists.{stops_in}
use Rattle.gtfs_runs.proofs.Chunks.{no_event}
use Rattle.gtfs_runs.proofs.Numbers.{groups_total}
use Rattle.gtfs_runs.proofs.Ranks.{below_first, parted_tally}
use Rattle.gtfs_runs.proofs.stop_lanes.numbered.group_at.Goals as goal

pub returns : goal.returns
returns c =
    let xs : List GroupedTripValue = c.args.trips.now in
    let group = group_of c.in_ok-trip.trip in
    let test : GroupedTripValue → Bool = λ x. is_lt (group_cmp (group_of x) group) in
    let n = c.partition_point.result in
    let parted = IsPartitionPoint-from_clause test xs n c.partition_point.ensures.partitioned (below_first group_cmp groups_total group_of xs group c.requires.in_order) (λ a r f k. search (rules, of_calls)) in
    let counted = parted_tally test xs n c.partition_point.ensures.bound parted.0 parted.1 in
    let p = c.args.feed.now in
    let t = c.trip-trip.result.0 in
    let stops : c.get.result.now ≡ (trip_group p t).1 =
    sym (get_or_from_slice_get c.push.new.self 0 c.get.result.now [] c.get.ensures)
    ∙ ap (λ l. get_or l 0 []) (c.in_ok-push.ensures ∙ ap (λ l. l ++ stops_in c.trip_rows.result.now ∷ []) c.in_ok-lists.ensures)
    ∙ ap stops_in (sym (get_or_from_slice_get (stop_rows_by_trip p) t c.trip_rows.result.now [] c.trip_rows.ensures)) in
    IfOk-weaker c.small_number.result _ _
    (λ number is d. is ∙ counted
    ∙ ap (below xs) (ap group_of c.in_ok-trip.ensures ∙ ap (λ l. ((trip_group p t).0, l)) stops ∙ ap (trip_group p) (c.trip-trip.ensures ∙ ap (λ x. x.trip) (get_or_default c.args.listed.now c.args.n no_event d c.requires.within))))
    c.small_number.ensures

use Rattle.std.proofs.Common.{rules, of_calls, ◌≡◌, true, false, List}
use Rattle.std.specs.Ordering.{is_lt}
use Rattle.std.specs.List.Sorted.{IsPartitionPoint}
use Rattle.std.proofs.lemmas.List.Sorted.{IsPartitionPoint-from_clause}
use Rattle.gtfs_rows.proofs.SoundOrder.{in_order}
use Rattle.gtfs_rows.specs.declared.trip.Trip.{Trip}
use Rattle.gtfs_field.specs.TextOrder.{text_cmp}
use Rattle.gtfs_runs.proofs.TripIds.{count_below, trips_parted}
use Rattle.gtfs_runs.proofs.trips.trips_below.Goals as goal

pub returns : goal.returns
returns c =
    let trips : List Trip = c.args.feed.now.trips in
    let id = c.args.id.now in
    let index = c.partition_point.result in
    let parted : IsPartitionPoint (λ t. is_lt (text_cmp t.trip_id id) ≡ true) (λ t. is_lt (text_cmp t.trip_id id) ≡ false) trips index =
    IsPartitionPoint-from_clause (λ t. is_lt (text_cmp t.trip_id id)) trips index (rw (c.as_slice-trips.ensures, c.parts.ensures.value) at c.partition_point.ensures.partitioned)
    (trips_parted id trips (in_order c.args.feed.now c.soundness.ensures).trips) (λ a r f k. search (rules, of_calls)) in
    count_below id trips index parted

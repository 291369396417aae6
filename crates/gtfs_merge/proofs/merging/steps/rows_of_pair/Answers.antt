use Rattle.std.proofs.Common.{◌≡◌, ◌∙◌, ap, length, subst, sym}
use Rattle.std.specs.List.{All}
use Rattle.gtfs_stop_times.specs.StopTimesByTrip.{StopTimesOfTrips}
use Rattle.gtfs_stop_times.specs.JoinedStopTimes.{IsTripOf}
use Rattle.gtfs_merge.proofs.merging.steps.rows_of_pair.Goals as goal

pub with_stop_times-requires-clause-trips : goal.with_stop_times-requires-clause-trips
with_stop_times-requires-clause-trips c =
    let first : c.as_ref.result.now.stop_times ≡ c.in_ok-first.first = ap (λ f. f.stop_times) c.as_ref.ensures ∙ sym c.in_ok-first.ensures in
    let second : c.as_ref-2.result.now.stop_times ≡ c.in_ok-second.second = ap (λ f. f.stop_times) c.as_ref-2.ensures ∙ sym c.in_ok-second.ensures in
    subst (λ (t : StopTimesOfTrips × StopTimesOfTrips). All (IsTripOf (length t.0.starts) (length t.1.starts)) c.in_ok-lists.lists.trips.items)
    (λ i. (first i, second i)) c.in_ok-lists.ensures.trips

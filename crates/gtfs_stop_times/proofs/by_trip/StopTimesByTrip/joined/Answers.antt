use Rattle.std.proofs.Common.{◌≡◌, ◌∙◌, ap, length, subst, sym}
use Rattle.std.specs.List.{All}
use Rattle.std.proofs.lemmas.List.{length-map}
use Rattle.gtfs_table.proofs.PartFacts.{length-parts}
use Rattle.gtfs_stop_times.specs.StopTimesByTrip.{rows_in}
use Rattle.gtfs_stop_times.specs.JoinedStopTimes.{IsTripOf}
use Rattle.gtfs_stop_times.proofs.by_trip.StopTimesByTrip.joined.Goals as goal

pub ranges_of-requires-clause-trips : goal.ranges_of-requires-clause-trips
ranges_of-requires-clause-trips c =
    let first = c.in_ok-first.first in
    let second = c.in_ok-second.second in
    let count_first : length c.args.first.starts ≡ length first.ranges.items =
    sym (length-parts c.args.first.starts c.args.first.rows) ∙ ap length (sym c.in_ok-first.ensures.rows) ∙ length-map first.ranges.items (rows_in first.rows.items) in
    let count_second : length c.args.second.starts ≡ length second.ranges.items =
    sym (length-parts c.args.second.starts c.args.second.rows) ∙ ap length (sym c.in_ok-second.ensures.rows) ∙ length-map second.ranges.items (rows_in second.rows.items) in
    subst (λ n. All (IsTripOf n (length second.ranges.items)) c.args.trips.now) count_first
    (subst (λ n. All (IsTripOf (length c.args.first.starts) n) c.args.trips.now) count_second c.requires.trips)

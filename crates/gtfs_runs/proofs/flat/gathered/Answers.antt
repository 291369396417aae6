use Rattle.std.proofs.Common.{◌≤◌, ◌∙◌, length, cond, ap, arith}
use Rattle.gtfs_rows.specs.RowsInMemory.{stop_ids, text_of_number}
use Rattle.gtfs_times.specs.TimedRows.{timed_parts}
use Rattle.gtfs_runs.specs.Tallies.{tally}
use Rattle.gtfs_runs.specs.FlatEvents.{is_event_of, is_served}
use Rattle.gtfs_runs.proofs.ContentRows.{members_length}
use Rattle.gtfs_runs.proofs.RowEvents.{trip_known}
use Rattle.gtfs_runs.proofs.Tallies.{all_trips, more_trips, no_trips}
use Rattle.gtfs_runs.proofs.flat.gathered.Goals as goal

pub loop-number-init : goal.loop-number-init
loop-number-init c = λ service e. ap (tally (is_served service e)) c.new-events.ensures.items ∙ no_trips e.trip.0 (is_event_of (timed_parts c.args.times c.args.feed.now) c.args.stop.0 service e)

pub push_trip-requires-clause-place : goal.push_trip-requires-clause-place
push_trip-requires-clause-place c = ap length c.in_ok-place.ensures ∙ members_length c.args.feed.now (text_of_number (stop_ids c.args.feed.now) c.args.stop.0)

pub loop-number-preserved : goal.loop-number-preserved
loop-number-preserved c = λ service e.
    more_trips e.trip.0 c.loop-number.number (is_event_of (timed_parts c.args.times c.args.feed.now) c.args.stop.0 service e) _ _
    (c.loop-number.invariant service e) (c.in_ok-push_trip.ensures c.args.stop.0 service e c.in_ok-place.ensures)

pub returns : goal.returns
returns c = λ service e.
    let n = c.loop-number.number in
    let past : length c.args.feed.now.trips ≤ n = omega (arith, c.trip_count-number-end.ensures) in
    c.loop-number.invariant service e
    ∙ ap (λ b. cond b 1 0) (all_trips e.trip.0 n (is_event_of (timed_parts c.args.times c.args.feed.now) c.args.stop.0 service e)
    (λ holds. let known = trip_known (timed_parts c.args.times c.args.feed.now) c.args.stop.0 service e holds in omega (arith, known, past)))

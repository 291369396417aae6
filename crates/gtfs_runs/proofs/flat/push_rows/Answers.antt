use Rattle.std.proofs.Common.{◌≤◌, ◌+◌, ◌==◌, ◌∙◌, List, length, cond, ap, arith}
use Rattle.gtfs_stop_times.specs.declared.stop_row.StopRow.{StopRow}
use Rattle.gtfs_times.proofs.FilledContent.{sound-timed}
use Rattle.gtfs_times.specs.TimedRows.{timed_parts}
use Rattle.gtfs_runs.specs.Tallies.{tally}
use Rattle.gtfs_runs.specs.FlatEvents.{is_event_of, is_served}
use Rattle.gtfs_runs.proofs.RowEvents.{row_of_trip}
use Rattle.gtfs_runs.proofs.Tallies.{all_rows, more_rows, no_rows}
use Rattle.gtfs_runs.proofs.flat.push_rows.Goals as goal

pub loop-position-init : goal.loop-position-init
loop-position-init c = λ times s service e place at.
    no_rows (e.trip.0 == c.args.trip.0) (is_event_of (timed_parts times c.args.feed.now) s service e) e.row (tally (is_served service e) c.args.events.now.items)

pub loop-position-preserved : goal.loop-position-preserved
loop-position-preserved c = λ times s service e place at.
    more_rows (e.trip.0 == c.args.trip.0) (is_event_of (timed_parts times c.args.feed.now) s service e) e.row c.loop-position.position _ _ _
    (c.loop-position.invariant times s service e place at) (c.in_ok-push_row.ensures times s service e place at)

pub returns : goal.returns
returns c = λ times s service e place at.
    let q = timed_parts times c.args.feed.now in
    let rows : List StopRow = c.args.rows.now in
    let n = c.loop-position.position in
    let past : length rows ≤ n = omega (arith, c.loop-position-test.false) in
    c.loop-position.invariant times s service e place at
    ∙ ap (λ b. tally (is_served service e) c.args.events.now.items + cond b 1 0)
    (all_rows (e.trip.0 == c.args.trip.0) (is_event_of q s service e) e.row n
    (λ holds. let known = row_of_trip q (sound-timed c.args.feed.now c.soundness.ensures times) s c.args.trip.0 service rows e at holds in omega (arith, known, past)))

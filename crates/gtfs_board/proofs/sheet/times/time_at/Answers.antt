use Rattle.std.proofs.Common.{◌≡◌, length, ap, arith}
use Rattle.gtfs_rows.proofs.TripFacts.{stop_times}
use Rattle.gtfs_runs.specs.Patterns.{rows_of_number}
use Rattle.gtfs_runs.proofs.RowEvents.{leaves_later}
use Rattle.gtfs_board.proofs.SheetColumns.{column-time, late-rows, rows-are}
use Rattle.gtfs_board.proofs.sheet.times.time_at.Goals as goal

pub time_among-requires-clause-within : goal.time_among-requires-clause-within
time_among-requires-clause-within c =
    let long : length (rows_of_number c.args.feed.now c.args.column.trip.0) ≡ length c.trip_rows-rows.result.now = ap length (rows-are c.args.feed.now c.args.column.trip.0 c.trip_rows-rows.result.now c.trip_rows-rows.ensures) in
    omega (arith, c.requires.reaches, long)

pub time_among-requires-clause-late : goal.time_among-requires-clause-late
time_among-requires-clause-late c = λ d.
    let rows = c.trip_rows-rows.result.now in
    let long : length (rows_of_number c.args.feed.now c.args.column.trip.0) ≡ length rows = ap length (rows-are c.args.feed.now c.args.column.trip.0 rows c.trip_rows-rows.ensures) in
    late-rows c.args.feed.now c.soundness.ensures c.args.column.trip.0 rows c.trip_rows-rows.ensures c.args.position d (omega (arith, c.requires.reaches, long))

pub time_among-requires-clause-later : goal.time_among-requires-clause-later
time_among-requires-clause-later c = λ d has.
    let rows = c.trip_rows-rows.result.now in
    let long : length (rows_of_number c.args.feed.now c.args.column.trip.0) ≡ length rows = ap length (rows-are c.args.feed.now c.args.column.trip.0 rows c.trip_rows-rows.ensures) in
    leaves_later c.args.feed.now rows (stop_times c.args.feed.now c.soundness.ensures c.args.column.trip.0 rows c.trip_rows-rows.ensures) c.args.position d (omega (arith, c.requires.reaches, long)) has

pub returns : goal.returns
returns c =
    column-time c.args.feed.now c.soundness.ensures c.args.column c.args.position c.trip_rows-rows.result.now _ c.trip_rows-rows.ensures
    (λ row fs. c.time_among.ensures c.args.feed.now row fs)

use Rattle.std.proofs.Common.{◌≡◌, ◌∙◌, map, ap, arith}
use Rattle.std.specs.Prelude.{option_and_then}
use Rattle.std.specs.List.{range_with_len}
use Rattle.gtfs_rows.specs.RowsInMemory.{trip_of}
use Rattle.gtfs_board.specs.Timetable.{row_at, time_passed}
use Rattle.gtfs_board.proofs.SheetLists.{ranged-pushed}
use Rattle.gtfs_board.proofs.sheet.by_run.times_along.Goals as goal

pub time_among-requires-clause-within : goal.time_among-requires-clause-within
time_among-requires-clause-within c = omega (arith, c.requires.within, c.loop-position-test.true)

pub time_among-requires-clause-late : goal.time_among-requires-clause-late
time_among-requires-clause-late c = λ d. c.requires.keep.late c.loop-position.position d (omega (arith, c.requires.within, c.loop-position-test.true))

pub time_among-requires-clause-later : goal.time_among-requires-clause-later
time_among-requires-clause-later c = λ d has. c.requires.keep.later c.loop-position.position d (omega (arith, c.requires.within, c.loop-position-test.true)) has

pub loop-position-preserved : goal.loop-position-preserved
loop-position-preserved c = λ p t fs.
    ranged-pushed (λ i. option_and_then (time_passed (trip_of p t c.args.rows.now fs) c.args.start) (row_at (trip_of p t c.args.rows.now fs) i)) c.loop-position.position _ _ _
    (c.loop-position.invariant p t fs) c.in_ok-push.ensures.items (c.time_among.ensures p t fs)

pub returns : goal.returns
returns c = λ p t fs.
    let all : c.loop-position.position ≡ c.args.stop_count = omega (arith, c.loop-position-test.false, c.loop-position.auto.position-end) in
    c.loop-position.invariant p t fs
    ∙ ap (λ m. map (λ i. option_and_then (time_passed (trip_of p t c.args.rows.now fs) c.args.start) (row_at (trip_of p t c.args.rows.now fs) i)) (range_with_len 0 m)) all

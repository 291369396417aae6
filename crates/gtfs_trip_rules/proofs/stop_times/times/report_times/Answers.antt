use Rattle.std.proofs.lemmas.Result.{on_ok_weaker}
use Rattle.gtfs_trip_rules.proofs.StopTimeFacts.{times_reported}
use Rattle.gtfs_trip_rules.proofs.stop_times.times.report_times.Goals as goal

pub returns : goal.returns
returns c = on_ok_weaker c.report_if-3.result (λ last. λ d is. times_reported d c.args.stop_time.now is _ _ _ _
    (rw (c.problem-early.ensures, c.is_before.ensures, c.value.ensures, c.value-2.ensures) at c.in_ok-report_if.ensures)
    (rw (c.problem-lacks_arrival.ensures, c.is_alone.ensures) at c.in_ok-report_if-2.ensures)
    (rw (c.problem-lacks_departure.ensures, c.is_alone-2.ensures) at last)) c.report_if-3.ensures

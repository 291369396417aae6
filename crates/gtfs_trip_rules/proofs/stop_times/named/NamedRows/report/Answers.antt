use Rattle.std.proofs.lemmas.Result.{on_ok_weaker}
use Rattle.gtfs_trip_rules.proofs.StopTimeFacts.{names_reported}
use Rattle.gtfs_trip_rules.proofs.stop_times.named.NamedRows.report.Goals as goal

pub returns : goal.returns
returns c = on_ok_weaker c.report_if-3.result (λ last. λ d named is. names_reported d c.args.stop_time.now is c.args.self.now named _ _ _ _
    (rw (c.problem-no_stop.ensures, c.is_lost.ensures, c.requires.stop, c.value.ensures) at c.in_ok-report_if.ensures)
    (rw (c.problem-no_trip.ensures, c.is_lost-2.ensures, c.requires.trip, c.value-2.ensures) at c.in_ok-report_if-2.ensures)
    (rw (c.problem-no_platform.ensures, c.is_no_platform.ensures, c.requires.stop) at last)) c.report_if-3.ensures

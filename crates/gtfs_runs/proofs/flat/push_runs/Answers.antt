use Rattle.std.proofs.Common.{◌++◌, ◌∙◌, map, get_or, sym, ap}
use Rattle.std.proofs.lemmas.List.{take_all}
use Rattle.gtfs_stop_times.specs.declared.stop_row.StopRow.{StopRow}
use Rattle.gtfs_runs.specs.FlatEvents.{served_at}
use Rattle.gtfs_runs.proofs.Tallies.{nothing_yet, run_more}
use Rattle.gtfs_runs.proofs.flat.push_runs.Goals as goal

pub loop-run-init : goal.loop-run-init
loop-run-init c = λ p t fs d same. nothing_yet (served_at p t c.args.rows.now fs c.args.trip.0 c.args.position (get_or c.args.rows.now c.args.position d)) c.args.runs.now c.args.events.now.items

pub loop-run-preserved : goal.loop-run-preserved
loop-run-preserved c = λ p t fs d same.
    let x : StopRow = get_or c.args.rows.now c.args.position d in
    let told = c.event_at.ensures in
    run_more (served_at p t c.args.rows.now fs c.args.trip.0 c.args.position x) c.args.runs.now c.loop-run.run-index
    c.args.events.now.items _ _ (c.args.service, c.event_at.result) c.loop-run-test.true (c.loop-run.invariant p t fs d same) c.in_ok-push.ensures.items
    (λ i. (sym same i, record { at = told.at p t fs d i; trip = told.trip i; run = told.run i; seq = told.seq d i; row = told.row i }))

pub returns : goal.returns
returns c = λ p t fs d same.
    let f = served_at p t c.args.rows.now fs c.args.trip.0 c.args.position (get_or c.args.rows.now c.args.position d) in
    c.loop-run.invariant p t fs d same ∙ ap (λ rs. c.args.events.now.items ++ map f rs) (take_all c.loop-run.run-index c.args.runs.now c.loop-run-test.false)

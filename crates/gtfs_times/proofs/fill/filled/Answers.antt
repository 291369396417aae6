use Rattle.std.proofs.Common.{◌≤◌, ◌∙◌, length, arith}
use Rattle.std.proofs.lemmas.List.{take_all}
use Rattle.gtfs_times.specs.TimedRows.{filled_stop_times}
use Rattle.gtfs_times.proofs.FillValue.{filled-length, filled-more}
use Rattle.gtfs_times.proofs.fill.filled.Goals as goal

pub loop-at-preserved : goal.loop-at-preserved
loop-at-preserved c = record {
  so_far = filled-more c.args.rows.now c.loop-at.at c.filled_row.result _ _ c.loop-at-test.true c.loop-at.invariant.so_far c.in_ok-push.ensures.items c.filled_row.ensures;
  span = c.span_after-span.ensures;
}

pub returns : goal.returns
returns c =
    let rs = c.args.rows.now in
    let past : length (filled_stop_times rs) ≤ c.loop-at.at = omega (arith, filled-length rs, c.loop-at-test.false) in
    c.loop-at.invariant.so_far ∙ take_all c.loop-at.at (filled_stop_times rs) past

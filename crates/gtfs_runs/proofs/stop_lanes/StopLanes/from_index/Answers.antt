use Rattle.std.proofs.Common.{◌≡◌, map, sym, subst}
use Rattle.std.specs.Prelude.{IfOk}
use Rattle.gtfs_rows.specs.RowsInMemory.{content_of_parts, service_ids, stop_ids, text_of_number}
use Rattle.gtfs_rows.specs.declared.parts.Parts.{Parts}
use Rattle.gtfs_times.specs.Filling.{timed}
use Rattle.gtfs_times.specs.declared.times.Times.{Times}
use Rattle.gtfs_runs.specs.LaneKinds.{AreByKind}
use Rattle.gtfs_runs.specs.Lanes.{latest}
use Rattle.gtfs_runs.specs.StopLanes.{AreLanesOf, lanes_of, list_value, period_value}
use Rattle.gtfs_runs.specs.steps.WholeLanes.{AreWhole}
use Rattle.gtfs_runs.proofs.Pushes.{none-made}
use Rattle.gtfs_runs.proofs.stop_lanes.StopLanes.from_index.Goals as goal

pub with_filled_apart-requires : goal.with_filled_apart-requires
with_filled_apart-requires c =
    subst (λ (r : Times × Parts). AreWhole (timed r.0 (content_of_parts r.1)) (text_of_number (stop_ids r.1) c.args.stop.0) (service_ids r.1)
    (map list_value c.in_ok-lists.lists.items) (map period_value c.in_ok-lists.periods.items))
    (λ i. (sym c.times.ensures i, sym c.feed.ensures i)) c.in_ok-lists.ensures

pub returns : goal.returns
returns c = record {
  lanes =
      subst (λ (r : Times × Parts). IfOk c.with_filled_apart.result (λ built. AreLanesOf (timed r.0 (content_of_parts r.1)) (text_of_number (stop_ids r.1) c.args.stop.0) (service_ids r.1) (lanes_of built.0)))
      (λ i. (c.times.ensures i, c.feed.ensures i)) c.with_filled_apart.ensures.lanes;
  kinds =
      subst (λ (r : Times × Parts). IfOk c.with_filled_apart.result (λ built. AreByKind r.0 (content_of_parts r.1) (text_of_number (stop_ids r.1) c.args.stop.0) built.0))
      (λ i. (c.times.ensures i, c.feed.ensures i)) c.with_filled_apart.ensures.kinds;
  greatest =
      subst (λ (r : Times × Parts). IfOk c.with_filled_apart.result (λ built. built.0.greatest ≡ latest (timed r.0 (content_of_parts r.1)) (text_of_number (stop_ids r.1) c.args.stop.0)))
      (λ i. (c.times.ensures i, c.feed.ensures i)) c.with_filled_apart.ensures.greatest;
  steps = c.with_filled_apart.ensures.steps;
}

pub returns-in_err-lists : goal.returns-in_err-lists
returns-in_err-lists c =
    let r = c.from_residual.result in
    let refused = c.from_residual.ensures.1 in
    record { lanes = none-made r _ _ refused; kinds = none-made r _ _ refused; greatest = none-made r _ _ refused; steps = none-made r _ _ refused }

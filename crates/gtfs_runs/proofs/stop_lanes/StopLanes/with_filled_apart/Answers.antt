use Rattle.std.proofs.Common.{◌++◌, ◌∙◌, map, sym, ap, subst}
use Rattle.std.specs.List.{flat_map}
use Rattle.gtfs_rows.specs.RowsInMemory.{content_of_parts, service_ids, stop_ids, text_of_number}
use Rattle.gtfs_times.proofs.FilledContent.{sound-timed}
use Rattle.gtfs_times.proofs.TimedContent.{content-timed}
use Rattle.gtfs_times.specs.Filling.{timed}
use Rattle.gtfs_times.specs.TimedRows.{timed_parts}
use Rattle.gtfs_runs.specs.Lanes.{latest}
use Rattle.gtfs_runs.specs.StopLanes.{AreLanesOf, filled_value, list_value, period_value}
use Rattle.gtfs_runs.specs.steps.LatestOfLists.{latest_of}
use Rattle.gtfs_runs.proofs.LanesMoved.{lanes-moved, lists-apart}
use Rattle.gtfs_runs.proofs.LatestEvents.{latest_is}
use Rattle.gtfs_runs.proofs.Pushes.{none-made}
use Rattle.gtfs_runs.proofs.UntimedEvents.{given_lanes}
use Rattle.gtfs_runs.proofs.WholeLanes.{are_by_kind}
use Rattle.gtfs_runs.proofs.stop_lanes.StopLanes.with_filled_apart.Goals as goal

pub split-requires : goal.split-requires
split-requires c =
    let p = c.args.feed.now in
    given_lanes c.args.times (content_of_parts p) (text_of_number (stop_ids p) c.args.stop.0) (service_ids p) (map list_value c.args.lists.items) (map period_value c.args.periods.items)
    c.requires.lanes

pub returns-clause-lanes : goal.returns-clause-lanes
returns-clause-lanes c =
    let p = c.args.feed.now in
    let lists = map list_value c.args.lists.items in
    let periods = map period_value c.args.periods.items in
    let given = map list_value c.in_ok-given.given.items in
    let filled = map filled_value c.in_ok-given.filled.items in
    lanes-moved (timed c.args.times (content_of_parts p)) (text_of_number (stop_ids p) c.args.stop.0) (service_ids p) (lists ++ periods) (given ++ periods ++ filled)
    (lists-apart lists periods given filled c.in_ok-given.ensures.same) c.requires.lanes

pub returns-clause-kinds : goal.returns-clause-kinds
returns-clause-kinds c =
    let p = c.args.feed.now in
    are_by_kind c.args.times (content_of_parts p) (text_of_number (stop_ids p) c.args.stop.0) (service_ids p) (map list_value c.args.lists.items) (map period_value c.args.periods.items)
    (map list_value c.in_ok-given.given.items) (map filled_value c.in_ok-given.filled.items) c.latest-greatest.result c.requires c.in_ok-given.ensures

pub returns-clause-greatest : goal.returns-clause-greatest
returns-clause-greatest c =
    let p = c.args.feed.now in
    let id = text_of_number (stop_ids p) c.args.stop.0 in
    let is = content-timed c.args.times p c.soundness.ensures in
    let lanes = map list_value c.args.lists.items ++ map period_value c.args.periods.items in
    c.latest-greatest.ensures ∙ (λ i. latest_of (flat_map (λ lane. lane.events) (map list_value (c.deref.ensures.value i) ++ map period_value (c.deref-2.ensures.value i))))
    ∙ latest_is (timed_parts c.args.times p) (sound-timed p c.soundness.ensures c.args.times) c.args.stop.0 lanes
    (subst (λ d. AreLanesOf d id (service_ids p) lanes) (sym is) c.requires.lanes)
    ∙ ap (λ d. latest d id) is

pub returns-in_err-given : goal.returns-in_err-given
returns-in_err-given c =
    let r = c.from_residual.result in
    let refused = c.from_residual.ensures.1 in
    record { lanes = none-made r _ _ refused; kinds = none-made r _ _ refused; greatest = none-made r _ _ refused; steps = none-made r _ _ refused }

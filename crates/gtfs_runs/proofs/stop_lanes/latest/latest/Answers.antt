use Rattle.std.proofs.Common.{◌∙◌, ap, sym, map}
use Rattle.std.specs.Prelude.{max}
use Rattle.std.specs.List.{flat_map}
use Rattle.std.proofs.lemmas.Grind.{flat_map-append}
use Rattle.gtfs_runs.specs.StopLanes.{list_value, period_value}
use Rattle.gtfs_runs.specs.steps.LatestOfLists.{latest_of}
use Rattle.gtfs_runs.proofs.Latest.{latest-append}
use Rattle.gtfs_runs.proofs.stop_lanes.latest.latest.Goals as goal

pub returns : goal.returns
returns c =
    let xs = map list_value c.args.lists.now in
    let ys = map period_value c.args.periods.now in
    c.max.ensures ∙ (λ i. max (c.latest_of_lists.ensures i) (c.latest_of_periods.ensures i))
    ∙ sym (ap latest_of (flat_map-append (λ lane. lane.events) xs ys) ∙ latest-append (flat_map (λ lane. lane.events) xs) (flat_map (λ lane. lane.events) ys))

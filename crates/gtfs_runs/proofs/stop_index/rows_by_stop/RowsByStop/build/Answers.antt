use Rattle.std.proofs.Common.{◌∙◌}
use Rattle.std.proofs.lemmas.List.{length-map}
use Rattle.gtfs_runs.proofs.IndexFacts.{are-departure-rows}
use Rattle.gtfs_runs.proofs.stop_index.rows_by_stop.RowsByStop.build.Goals as goal

pub returns-clause-rows : goal.returns-clause-rows
returns-clause-rows c =
    are-departure-rows c.args.times c.args.feed.now c.soundness.ensures _
    (length-map c.in_ok-at_stops.at_stops.items (λ x. x.items) ∙ c.in_ok-at_stops.ensures.length) c.in_ok-at_stops.ensures.told c.in_ok-at_stops.ensures.order

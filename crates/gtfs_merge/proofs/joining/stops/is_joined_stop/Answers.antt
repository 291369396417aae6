use Rattle.std.proofs.Common.{◌∙◌}
use Rattle.gtfs_merge.specs.Renaming.{stop_b}
use Rattle.gtfs_merge.specs.MergedSides.{content_a, content_b, nearness_of}
use Rattle.gtfs_merge.proofs.StopTwins.{parent-there, parent-twin, stop-flag}
use Rattle.gtfs_merge.proofs.joining.stops.is_joined_stop.Goals as goal

pub twin_of-parent-requires : goal.twin_of-parent-requires
twin_of-parent-requires c =
    parent-there c.args.sides.now c.soundness.ensures.a c.soundness.ensures.b c.args.twins.now c.requires.twins c.args.stop.0 c.stop_by_number-row.result.now c.stop_by_number-row.ensures

pub returns : goal.returns
returns c =
    let sides = c.args.sides.now in
    let row = c.stop_by_number-row.result.now in
    let rename = stop_b (nearness_of sides) (content_a sides) (content_b sides) in
    let parent = parent-twin sides c.soundness.ensures.a c.soundness.ensures.b c.args.twins.now c.requires.twins c.args.stop.0 row c.stop_by_number-row.ensures _ c.twin_of-parent.ensures in
    c.is_some.ensures ∙ stop-flag sides c.soundness.ensures.a c.soundness.ensures.b c.args.twins.now c.requires.twins c.args.stop.0 row c.stop_by_number-row.ensures c.joined_stop.result
    (c.joined_stop.ensures rename row c.stop_by_number-row.ensures parent)

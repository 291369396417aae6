use Rattle.std.proofs.Common.{◌∙◌, Some, None, refl, sym}
use Rattle.gtfs_merge.proofs.NearStops.{near-number-row}
use Rattle.gtfs_merge.proofs.joining.near_stops.near_stop.Goals as goal

pub returns-in-Some : goal.returns-in-Some
returns-in-Some c rename row at rel =
    near-number-row c.args.sides.now c.soundness.ensures.a c.soundness.ensures.b rename c.args.stop.0 c.stop_by_number-row.result.now row _ _ (Some c.in-Some.nearby)
    c.stop_by_number-row.ensures at rel (sym c.in-Some.is ∙ c.requires.nearby) c.find.ensures

pub returns-in-None : goal.returns-in-None
returns-in-None c rename row at rel =
    near-number-row c.args.sides.now c.soundness.ensures.a c.soundness.ensures.b rename c.args.stop.0 c.stop_by_number-row.result.now row _ None None
    c.stop_by_number-row.ensures at rel (sym c.in-None.is ∙ c.requires.nearby) refl

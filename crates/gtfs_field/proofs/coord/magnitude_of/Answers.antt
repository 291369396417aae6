use Rattle.std.proofs.Common.{◌∙◌}
use Rattle.gtfs_field.proofs.Coordinates.{magnitude_at-around}
use Rattle.gtfs_field.proofs.coord.magnitude_of.Goals as goal

pub returns : goal.returns
returns c =
    c.magnitude_from.ensures
    ∙ magnitude_at-around c.args.body.now _ _ (c.as_bytes.ensures.value ∙ c.around_point.ensures.whole) (c.as_bytes-2.ensures.value ∙ c.around_point.ensures.fraction)

use Rattle.std.proofs.Common.{arith}
use Rattle.gtfs_merge.specs.MergedDepartures.{AreFew}
use Rattle.gtfs_merge.specs.MergedSides.{content_a, content_b}
use Rattle.gtfs_merge.specs.declared.kind.Kind.TheVariants as kind
use Rattle.gtfs_merge.proofs.JoinedStops.{twin-joined, twin-near}
use Rattle.gtfs_merge.proofs.joining.stop_twins.stop_twin.Goals as goal

pub returns-in-Some : goal.returns-in-Some
returns-in-Some c rename row at rel =
    let few : AreFew kind.Stop (content_a c.args.sides.now) (content_b c.args.sides.now) = omega (arith, c.soundness.ensures.few kind.Stop) in
    twin-joined c.args.sides.now c.soundness.ensures.a c.soundness.ensures.b few rename row.stop_id c.in-Some.other.0 (c.in-Some.ensures rename row at rel)

pub returns-in-None : goal.returns-in-None
returns-in-None c rename row at rel =
    let few : AreFew kind.Stop (content_a c.args.sides.now) (content_b c.args.sides.now) = omega (arith, c.soundness.ensures.few kind.Stop) in
    twin-near c.args.sides.now c.soundness.ensures.a c.soundness.ensures.b few rename row.stop_id _ (c.in-None.ensures rename row at rel) (c.near_stop.ensures rename row at rel)

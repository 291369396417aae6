use Rattle.std.proofs.Common.{◌≡◌, ◌-◌, ◌∙◌, suc, bytes_eq, ap, sym, arith}
use Rattle.std.specs.Prelude.{option_and_then, position}
use Rattle.gtfs_rows.specs.RowsInMemory.{stop_ids, text_of_number}
use Rattle.gtfs_merge.specs.Twins.{became}
use Rattle.gtfs_merge.specs.Renaming.{stop_within}
use Rattle.gtfs_merge.specs.MergedSides.{content_a, content_b, nearness_of}
use Rattle.gtfs_merge.proofs.JoinedStops.{own-generation, next-generation, parent-within}
use Rattle.gtfs_merge.proofs.joining.stop_twins.+stop_within.Goals as goal

pub returns-then-generations-eq0 : goal.returns-then-generations-eq0
returns-then-generations-eq0 t c =
    own-generation c.args.sides.now c.soundness.ensures.a c.soundness.ensures.b c.args.stop.0 c.args.generations _ _ c.stop_by_number-row.ensures c.if-generations-eq0.true
    (c.stop.ensures ∙ ap (λ x. position (bytes_eq x) (stop_ids c.args.sides.now.a.now)) c.as_str.ensures)

pub returns-in_default : goal.returns-in_default
returns-in_default t c =
    let sides = c.args.sides.now in
    let more : c.args.generations ≡ suc (c.args.generations - 1) = omega (arith, c.if-generations-eq0.false) in
    let rename = stop_within (nearness_of sides) (c.args.generations - 1) (content_a sides) (content_b sides) in
    next-generation sides c.soundness.ensures.a c.soundness.ensures.b c.args.stop.0 c.args.generations (c.args.generations - 1) _ _ c.stop_by_number-row.ensures more
    (c.stop_twin.ensures rename c.stop_by_number-row.result.now c.stop_by_number-row.ensures
    (ap (option_and_then (λ n. became (stop_ids sides.a.now) rename (text_of_number (stop_ids sides.b.now) n.0))) (sym c.in_default.is)))

pub stop_within-became-requires : goal.stop_within-became-requires
stop_within-became-requires t c =
    let within = parent-within c.args.sides.now.b.now c.soundness.ensures.b c.args.stop.0 c.stop_by_number-row.result.now c.in-Some.parent c.stop_by_number-row.ensures c.in-Some.is in
    (omega (arith, c.decreases, c.if-generations-eq0.false), (c.requires.nearby, within))

pub returns : goal.returns
returns t c =
    let sides = c.args.sides.now in
    let more : c.args.generations ≡ suc (c.args.generations - 1) = omega (arith, c.if-generations-eq0.false) in
    let rename = stop_within (nearness_of sides) (c.args.generations - 1) (content_a sides) (content_b sides) in
    next-generation sides c.soundness.ensures.a c.soundness.ensures.b c.args.stop.0 c.args.generations (c.args.generations - 1) _ _ c.stop_by_number-row.ensures more
    (c.stop_twin-2.ensures rename c.stop_by_number-row.result.now c.stop_by_number-row.ensures
    (c.stop_within-became.ensures ∙ ap (option_and_then (λ n. became (stop_ids sides.a.now) rename (text_of_number (stop_ids sides.b.now) n.0))) (sym c.in-Some.is)))

use Rattle.std.proofs.Common.{◌≡◌, ◌∙◌, true, false, not, ap, sym, is_some, arith}
use Rattle.std.specs.Prelude.{◌&&◌}
use Rattle.gtfs_merge.specs.MergedDepartures.{AreFew}
use Rattle.gtfs_merge.specs.Renaming.{lists_id, ids, renaming}
use Rattle.gtfs_merge.specs.MergedSides.{content_a, content_b, is_joined_id, nearness_of, side_names}
use Rattle.gtfs_merge.specs.declared.kind.Kind.TheVariants as kind
use Rattle.gtfs_merge.specs.declared.kind.Side.TheVariants as side
use Rattle.gtfs_merge.proofs.MergesOfKinds.{has-twin}
use Rattle.gtfs_merge.proofs.NewIdRules.{few-taken, gets-free, has-known, nameless-apart, nameless-name, nameless-there, stays-lacking, taken-known}
use Rattle.gtfs_merge.proofs.Stops.{is-nearness}
use Rattle.gtfs_merge.proofs.names.new_ids.own_id_of_b.Goals as goal

pub new_agency_id_of_b-requires-clause-there : goal.new_agency_id_of_b-requires-clause-there
new_agency_id_of_b-requires-clause-there c = nameless-there c.args.sides.now.b.now c.args.kind c.args.id.now (sym c.is_nameless.ensures ∙ c.if-is_nameless.true) c.requires.there

pub new_agency_id_of_b-requires-clause-apart : goal.new_agency_id_of_b-requires-clause-apart
new_agency_id_of_b-requires-clause-apart c =
    let sides = c.args.sides.now in
    let none : lists_id (ids c.args.kind (content_a sides)) (renaming (side_names side.B sides) c.args.kind c.args.id.now) ≡ false =
    sym (has-twin sides c.soundness.ensures.a c.soundness.ensures.b c.soundness.ensures.few c.args.kind c.args.id.now) ∙ ap is_some (sym c.requires.alone) in
    nameless-apart (nearness_of sides) (content_a sides) (content_b sides) c.soundness.ensures.a.content c.soundness.ensures.few c.args.kind c.args.id.now (sym c.is_nameless.ensures ∙ c.if-is_nameless.true) none

pub returns-then-is_nameless : goal.returns-then-is_nameless
returns-then-is_nameless c =
    let sides = c.args.sides.now in
    c.in_ok-new_agency_id_of_b.ensures ∙ nameless-name (nearness_of sides) (content_a sides) (content_b sides) c.args.kind c.args.id.now (sym c.is_nameless.ensures ∙ c.if-is_nameless.true)

pub returns-then-not-has_this_id : goal.returns-then-not-has_this_id
returns-then-not-has_this_id c =
    let sides = c.args.sides.now in
    let few : AreFew kind.Stop (content_a sides) (content_b sides) = omega (arith, c.soundness.ensures.few kind.Stop) in
    let there = has-known c.args.kind sides.b.now c.soundness.ensures.b c.args.id.now true c.requires.there in
    let named = ap (λ t. t && not (is_joined_id c.args.kind sides c.args.id.now)) (sym c.is_nameless.ensures ∙ c.if-is_nameless.false) in
    let none : lists_id (ids c.args.kind (content_a sides)) (renaming (side_names side.B sides) c.args.kind c.args.id.now) ≡ false =
    sym (has-twin sides c.soundness.ensures.a c.soundness.ensures.b c.soundness.ensures.few c.args.kind c.args.id.now) ∙ ap is_some (sym c.requires.alone) in
    let lacks = has-known c.args.kind sides.a.now c.soundness.ensures.a c.args.id.now false (sym c.has_this_id.ensures ∙ c.if-not-has_this_id.true) in
    sym (stays-lacking (nearness_of sides) (is-nearness sides.near) (content_a sides) (content_b sides) c.soundness.ensures.a.content c.soundness.ensures.b.content few c.args.kind c.args.id.now there named none lacks)

pub free_id-requires : goal.free_id-requires
free_id-requires c = few-taken c.args.kind c.args.sides.now c.soundness.ensures.a c.soundness.ensures.b (c.soundness.ensures.few c.args.kind)

pub returns : goal.returns
returns c =
    let sides = c.args.sides.now in
    let few : AreFew kind.Stop (content_a sides) (content_b sides) = omega (arith, c.soundness.ensures.few kind.Stop) in
    let there = has-known c.args.kind sides.b.now c.soundness.ensures.b c.args.id.now true c.requires.there in
    let named = ap (λ t. t && not (is_joined_id c.args.kind sides c.args.id.now)) (sym c.is_nameless.ensures ∙ c.if-is_nameless.false) in
    let none : lists_id (ids c.args.kind (content_a sides)) (renaming (side_names side.B sides) c.args.kind c.args.id.now) ≡ false =
    sym (has-twin sides c.soundness.ensures.a c.soundness.ensures.b c.soundness.ensures.few c.args.kind c.args.id.now) ∙ ap is_some (sym c.requires.alone) in
    let has = has-known c.args.kind sides.a.now c.soundness.ensures.a c.args.id.now true (sym c.has_this_id.ensures ∙ c.if-not-has_this_id.false) in
    c.in_ok-free_id.ensures ∙ taken-known c.args.kind sides c.soundness.ensures.a c.soundness.ensures.b c.args.id.now
    ∙ sym (gets-free (nearness_of sides) (is-nearness sides.near) (content_a sides) (content_b sides) c.soundness.ensures.a.content c.soundness.ensures.b.content few c.args.kind c.args.id.now there named none has)

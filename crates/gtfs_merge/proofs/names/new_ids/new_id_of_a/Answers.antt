use Rattle.std.proofs.Common.{◌∙◌, codes, sym, true}
use Rattle.gtfs_merge.specs.MergedSides.{content_a, content_b, nearness_of}
use Rattle.gtfs_merge.specs.declared.kind.Kind.TheVariants as kind
use Rattle.gtfs_merge.proofs.NewIdRules.{few-taken, new-a, taken-known}
use Rattle.gtfs_merge.proofs.names.new_ids.new_id_of_a.Goals as goal

pub free_id-requires : goal.free_id-requires
free_id-requires c = few-taken kind.Agency c.args.sides.now c.soundness.ensures.a c.soundness.ensures.b (c.soundness.ensures.few kind.Agency)

pub returns-then-is_left_nameless : goal.returns-then-is_left_nameless
returns-then-is_left_nameless c =
    let sides = c.args.sides.now in
    c.in_ok-free_id.ensures ∙ taken-known kind.Agency sides c.soundness.ensures.a c.soundness.ensures.b (codes "agency")
    ∙ sym (new-a (nearness_of sides) (content_a sides) (content_b sides) c.args.kind c.args.id.now true (sym c.is_left_nameless.ensures ∙ c.if-is_left_nameless.true))

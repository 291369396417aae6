use Rattle.std.proofs.Common.{◌∙◌, codes, false, sym, true, []}
use Rattle.gtfs_merge.specs.MergedSides.{content_a, content_b}
use Rattle.gtfs_merge.specs.declared.kind.Kind.TheVariants as kind
use Rattle.gtfs_merge.proofs.NewIdRules.{few-taken, has-known, on-ok, only-name, second-name, taken-known}
use Rattle.gtfs_merge.proofs.names.new_ids.new_agency_id_of_b.Goals as goal

pub returns-then-has_this_id : goal.returns-then-has_this_id
returns-then-has_this_id c =
    let sides = c.args.sides.now in
    let has_a = has-known kind.Agency sides.a.now c.soundness.ensures.a [] true (sym c.has_this_id.ensures ∙ c.if-has_this_id.true) in
    let has_b = has-known kind.Agency sides.b.now c.soundness.ensures.b [] true c.requires.there in
    on-ok c.numbered_id.result c.numbered_id.ensures
    (λ id e. e ∙ sym (second-name (content_a sides) (content_b sides) c.soundness.ensures.a.content c.soundness.ensures.b.content has_a has_b c.requires.apart))

pub free_id-requires : goal.free_id-requires
free_id-requires c = few-taken kind.Agency c.args.sides.now c.soundness.ensures.a c.soundness.ensures.b (c.soundness.ensures.few kind.Agency)

pub returns : goal.returns
returns c =
    let sides = c.args.sides.now in
    let lacks = has-known kind.Agency sides.a.now c.soundness.ensures.a [] false (sym c.has_this_id.ensures ∙ c.if-has_this_id.false) in
    on-ok c.free_id.result c.free_id.ensures
    (λ id e. e ∙ taken-known kind.Agency sides c.soundness.ensures.a c.soundness.ensures.b (codes "agency") ∙ sym (only-name (content_a sides) (content_b sides) lacks c.requires.apart))

use Rattle.std.proofs.Common.{◌∙◌, ap, arith, length, sym}
use Rattle.std.proofs.lemmas.List.{length-map}
use Rattle.gtfs_rows.specs.RowsInMemory.{stop_ids}
use Rattle.gtfs_merge.specs.MergedSides.{is_joined_id}
use Rattle.gtfs_merge.specs.Twins.{is_joined_at, of_kind, twin_number}
use Rattle.gtfs_merge.specs.declared.kind.Kind.TheVariants as kind
use Rattle.gtfs_merge.proofs.JoinedIds.{of-kind-length}
use Rattle.gtfs_merge.proofs.TwinKinds.{told-at}
use Rattle.gtfs_merge.proofs.names.joined_ids.is_joined_row.Goals as goal

pub joined-requires-clause-within : goal.joined-requires-clause-within
joined-requires-clause-within c =
    let count = ap (λ t. length (of_kind t c.args.kind)) c.requires.twins ∙ of-kind-length c.args.sides.now c.args.kind in
    omega (arith, count, c.requires.within)

pub joined-requires-clause-flags : goal.joined-requires-clause-flags
joined-requires-clause-flags c =
    let ids = stop_ids c.args.sides.now.b.now in
    ap (λ t. length t.joined_stops) c.requires.twins ∙ length-map ids (is_joined_id kind.Stop c.args.sides.now)
    ∙ sym (ap (λ t. length t.stops) c.requires.twins ∙ length-map ids (twin_number kind.Stop c.args.sides.now))

pub returns : goal.returns
returns c =
    c.joined.ensures ∙ ap (λ t. is_joined_at t c.args.kind c.args.number) c.requires.twins
    ∙ told-at c.args.sides.now c.soundness.ensures.a c.soundness.ensures.b c.soundness.ensures.few c.args.kind c.args.number c.requires.within

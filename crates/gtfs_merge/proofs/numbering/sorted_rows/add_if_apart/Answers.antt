use Rattle.std.proofs.Common.{◌≡◌, ◌∙◌, ◌++◌, ◌∷◌, [], None, true, false, cond, ap, append-nil, arith, get_or, is_some, length, map, not, sym}
use Rattle.std.proofs.lemmas.List.{map-append}
use Rattle.gtfs_merge.specs.MergeEntries.{entry_of, entry_value, is_apart}
use Rattle.gtfs_merge.specs.Twins.{of_kind}
use Rattle.gtfs_merge.specs.declared.kind.Side.TheVariants as side
use Rattle.gtfs_merge.proofs.JoinedIds.{of-kind-length, twin-at}
use Rattle.gtfs_merge.proofs.numbering.sorted_rows.add_if_apart.Goals as goal

pub has-requires : goal.has-requires
has-requires c =
    let count = ap (λ t. length (of_kind t c.args.kind)) c.requires.twins ∙ of-kind-length c.args.sides.now c.args.kind in
    omega (arith, count, c.requires.within)

pub returns-in_ok-push : goal.returns-in_ok-push
returns-in_ok-push c =
    let has = c.has.ensures ∙ ap (λ t. is_some (get_or (of_kind t c.args.kind) c.args.number None)) c.requires.twins ∙ ap is_some (twin-at c.args.sides.now c.args.kind c.args.number c.requires.within) in
    let apart : is_apart c.args.kind c.args.sides.now c.args.number ≡ true = ap not (sym has ∙ c.if-not-has.true) in
    let old = map entry_value c.args.rows.now.items in
    ap (map entry_value) c.in_ok-push.ensures.items ∙ map-append entry_value c.args.rows.now.items (c.row_of.result ∷ [])
    ∙ (λ i. old ++ c.row_of.ensures i ∷ [])
    ∙ ap (λ t. old ++ map (entry_of side.B c.args.kind c.args.sides.now) (cond t (c.args.number ∷ []) [])) (sym apart)

pub returns-else-not-has : goal.returns-else-not-has
returns-else-not-has c =
    let has = c.has.ensures ∙ ap (λ t. is_some (get_or (of_kind t c.args.kind) c.args.number None)) c.requires.twins ∙ ap is_some (twin-at c.args.sides.now c.args.kind c.args.number c.requires.within) in
    let apart : is_apart c.args.kind c.args.sides.now c.args.number ≡ false = ap not (sym has ∙ c.if-not-has.false) in
    let old = map entry_value c.args.rows.now.items in
    sym (append-nil old) ∙ ap (λ t. old ++ map (entry_of side.B c.args.kind c.args.sides.now) (cond t (c.args.number ∷ []) [])) (sym apart)

use Rattle.std.proofs.Common.{◌≡◌, ◌∙◌, ◌<◌, ℕ, List, [], Some, ap, arith, get_or, length, sym}
use Rattle.std.specs.Prelude.{flat_map}
use Rattle.std.proofs.lemmas.List.{get_or_default}
use Rattle.gtfs_merge.specs.Names.{AllNames, in_kind, new_id, of_side}
use Rattle.gtfs_merge.specs.declared.kind.Kind.{Kind}
use Rattle.gtfs_merge.specs.declared.kind.Side.{Side}
use Rattle.gtfs_cli.specs.MergeReport.{id_line, named_line, side_lines}
use Rattle.gtfs_cli.proofs.Sent.{item-failed, item-sent, items-sent, sent-same}
use Rattle.gtfs_cli.proofs.commands.merge.printed_names.print_side.Goals as goal

-- the line of the id of a number
line-of : (names : AllNames) (side : Side) (kind : Kind) (number : ℕ) (ids : List (List ℕ)) (id name item : List ℕ) → ids ≡ (of_side (in_kind names kind) side).ids
    → new_id (of_side (in_kind names kind) side) (get_or (of_side (in_kind names kind) side).ids number []) ≡ Some name → id ≡ get_or ids number item → number < length ids
    → named_line side kind id (Some name) ≡ id_line names side kind (get_or ids number item)
line-of names side kind number ids id name item same told own within =
    let table = of_side (in_kind names kind) side in
    let other : get_or ids number item ≡ get_or table.ids number [] = get_or_default ids number item [] within ∙ ap (λ xs. get_or xs number []) same in
    ap (λ x. named_line side kind x (Some name)) own ∙ ap (named_line side kind (get_or ids number item)) (sym (ap (new_id table) other ∙ told))

pub by_number-name-requires : goal.by_number-name-requires
by_number-name-requires g c = omega (arith, ap (λ (xs : List (List ℕ)). length xs) c.ids-ids.ensures, c.loop-number-test.true)

pub loop-number-preserved : goal.loop-number-preserved
loop-number-preserved g c =
    let line = line-of c.args.names.now c.args.side c.args.kind c.loop-number.number c.ids-ids.result.now _ c.by_number-name.result.now _ c.ids-ids.ensures c.by_number-name.ensures.of_id
    (c.as_str.ensures ∙ c.index-ids-number.is) c.loop-number-test.true in
    let item = named_line c.args.side c.args.kind c.as_str.result.now (Some c.by_number-name.result.now) in
    item-sent (id_line c.args.names.now c.args.side c.args.kind) c.ids-ids.result.now c.loop-number.number c.index-ids-number.result item line c.loop-number-test.true _ _ _ _
    c.loop-number.invariant c.in_ok-print_id.ensures.sent

pub returns : goal.returns
returns g c =
    let lines = id_line c.args.names.now c.args.side c.args.kind in
    record {
      sent = sent-same (flat_map lines c.ids-ids.result.now) (side_lines c.args.names.now c.args.side c.args.kind) _ _ _ (ap (flat_map lines) c.ids-ids.ensures)
          (items-sent lines c.ids-ids.result.now c.loop-number.number _ _ _ c.loop-number-test.false c.loop-number.invariant);
    }

pub returns-in_err-print_id : goal.returns-in_err-print_id
returns-in_err-print_id g c =
    let lines = id_line c.args.names.now c.args.side c.args.kind in
    let line = line-of c.args.names.now c.args.side c.args.kind c.loop-number.number c.ids-ids.result.now _ c.by_number-name.result.now _ c.ids-ids.ensures c.by_number-name.ensures.of_id
    (c.as_str.ensures ∙ c.index-ids-number.is) c.loop-number-test.true in
    let item = named_line c.args.side c.args.kind c.as_str.result.now (Some c.by_number-name.result.now) in
    record {
      sent = sent-same (flat_map lines c.ids-ids.result.now) (side_lines c.args.names.now c.args.side c.args.kind) _ _ _ (ap (flat_map lines) c.ids-ids.ensures)
          (item-failed lines c.ids-ids.result.now c.loop-number.number c.index-ids-number.result item line c.loop-number-test.true _ _ _ _
          c.from_residual.result c.from_residual.ensures.1 c.loop-number.invariant c.in_err-print_id.ensures.sent);
    }

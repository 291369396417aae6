use Rattle.std.proofs.Common.{◌≡◌, ◌++◌, ap, sym, ◌∙◌, true, false, arith}
use Rattle.gtfs_merge.specs.FeedIds.{known_ids}
use Rattle.gtfs_merge.specs.Renaming.{lists_id, merged_id}
use Rattle.gtfs_merge.proofs.FreeSearch.{few-counted, searched_first, number_left, searched_next, searched_found}
use Rattle.gtfs_merge.proofs.names.free_ids.free_id.Goals as goal

pub loop-id-init : goal.loop-id-init
loop-id-init c = searched_first (known_ids c.args.kind c.args.sides.now.a.now ++ known_ids c.args.kind c.args.sides.now.b.now) c.args.base.now

pub returns-then-not-is_taken : goal.returns-then-not-is_taken
returns-then-not-is_taken c =
    let taken = known_ids c.args.kind c.args.sides.now.a.now ++ known_ids c.args.kind c.args.sides.now.b.now in
    let few = few-counted taken c.requires in
    let at : lists_id taken (merged_id c.args.base.now c.loop-id.number) ≡ false =
    ap (lists_id taken) (sym (c.as_str.ensures.value ∙ c.in_ok-id.ensures)) ∙ sym c.is_taken.ensures ∙ c.if-not-is_taken.true in
    c.in_ok-id.ensures ∙ sym (searched_found taken c.args.base.now c.loop-id.number few c.loop-id.invariant at)

pub overflow_add-number : goal.overflow_add-number
overflow_add-number c =
    let taken = known_ids c.args.kind c.args.sides.now.a.now ++ known_ids c.args.kind c.args.sides.now.b.now in
    let few = few-counted taken c.requires in
    let left = number_left taken c.args.base.now c.loop-id.number few c.loop-id.invariant in
    omega (arith, left.1, c.requires)

pub loop-id-smaller : goal.loop-id-smaller
loop-id-smaller c =
    let taken = known_ids c.args.kind c.args.sides.now.a.now ++ known_ids c.args.kind c.args.sides.now.b.now in
    let few = few-counted taken c.requires in
    let left = number_left taken c.args.base.now c.loop-id.number few c.loop-id.invariant in
    omega (arith, left.1)

pub loop-id-preserved : goal.loop-id-preserved
loop-id-preserved c =
    let taken = known_ids c.args.kind c.args.sides.now.a.now ++ known_ids c.args.kind c.args.sides.now.b.now in
    let few = few-counted taken c.requires in
    let at : lists_id taken (merged_id c.args.base.now c.loop-id.number) ≡ true =
    ap (lists_id taken) (sym (c.as_str.ensures.value ∙ c.in_ok-id.ensures)) ∙ sym c.is_taken.ensures ∙ c.if-not-is_taken.false in
    searched_next taken c.args.base.now c.loop-id.number few c.loop-id.invariant at

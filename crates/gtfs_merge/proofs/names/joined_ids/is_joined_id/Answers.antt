use Rattle.std.proofs.Common.{◌∙◌, ap, sym}
use Rattle.gtfs_merge.specs.FeedIds.{known_ids}
use Rattle.gtfs_merge.specs.MergedSides.{is_joined_id}
use Rattle.gtfs_merge.proofs.JoinedIds.{own-index, told-not-there}
use Rattle.gtfs_merge.proofs.names.joined_ids.is_joined_id.Goals as goal

pub is_joined_row-requires-clause-within : goal.is_joined_row-requires-clause-within
is_joined_row-requires-clause-within c = (own-index (known_ids c.args.kind c.args.sides.now.b.now) c.args.id.now c.in-Some.number (sym c.in-Some.ensures)).0

pub returns-in-Some : goal.returns-in-Some
returns-in-Some c =
    let own = (own-index (known_ids c.args.kind c.args.sides.now.b.now) c.args.id.now c.in-Some.number (sym c.in-Some.ensures)).1 in
    c.is_joined_row.ensures ∙ ap (is_joined_id c.args.kind c.args.sides.now) (sym own)

pub returns-in-None : goal.returns-in-None
returns-in-None c = told-not-there c.args.sides.now c.soundness.ensures.a c.soundness.ensures.b c.args.kind c.args.id.now (sym c.in-None.ensures)

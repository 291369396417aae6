use Rattle.std.proofs.Common.{◌∙◌, sym}
use Rattle.gtfs_merge.specs.FeedIds.{known_ids}
use Rattle.gtfs_merge.specs.Renaming.{renaming}
use Rattle.gtfs_merge.specs.MergedSides.{side_names}
use Rattle.gtfs_merge.specs.declared.kind.Side.TheVariants as side
use Rattle.gtfs_merge.proofs.JoinedIds.{own-index}
use Rattle.gtfs_merge.proofs.NewIdRules.{on-ok}
use Rattle.gtfs_merge.proofs.names.new_ids.new_id_of_b.Goals as goal

pub id_of-requires : goal.id_of-requires
id_of-requires c = (own-index (known_ids c.args.kind c.args.sides.now.a.now) (renaming (side_names side.B c.args.sides.now) c.args.kind c.args.id.now) c.in-Some.first (sym c.requires.twin ∙ c.in-Some.is)).0

pub returns-in-Some : goal.returns-in-Some
returns-in-Some c =
    on-ok c.other_name.result c.other_name.ensures (λ new e. e ∙ c.id_of.ensures
    ∙ sym (own-index (known_ids c.args.kind c.args.sides.now.a.now) (renaming (side_names side.B c.args.sides.now) c.args.kind c.args.id.now) c.in-Some.first (sym c.requires.twin ∙ c.in-Some.is)).1)

pub own_id_of_b-requires-clause-alone : goal.own_id_of_b-requires-clause-alone
own_id_of_b-requires-clause-alone c = sym c.in-None.is ∙ c.requires.twin

use Rattle.gtfs_merge.proofs.NamesPromised.{promised}
use Rattle.gtfs_merge.proofs.NewIdRules.{on-ok}
use Rattle.gtfs_merge.proofs.names.Names.of_twins.Goals as goal

pub returns-clause-kinds : goal.returns-clause-kinds
returns-clause-kinds c = on-ok c.of_kinds.result c.of_kinds.ensures (λ names are. are.kinds)

pub returns-clause-names : goal.returns-clause-names
returns-clause-names c = on-ok c.of_kinds.result c.of_kinds.ensures
    (λ names are. promised c.args.sides.now c.soundness.ensures.a c.soundness.ensures.b c.soundness.ensures.few names are.kinds are.near)

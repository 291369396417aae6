use Rattle.std.proofs.Common.{refl}
use Rattle.gtfs_row_rules.proofs.KeySteps.{transfers_repeated}
use Rattle.gtfs_row_rules.proofs.keys.repeated_transfer.Goals as goal

pub returns-clause-rule : goal.returns-clause-rule
returns-clause-rule c = (
  (λ n. transfers_repeated c.args.tables.now c.column.result c.column-2.result c.column-3.result
      c.column-4.result c.column-5.result c.column-6.result c.column.ensures c.column-2.ensures c.column-3.ensures c.column-4.ensures c.column-5.ensures c.column-6.ensures n),
  (λ q. rw c.new.ensures.empty refl),
)

use Rattle.std.proofs.Common.{◌∙◌, refl}
use Rattle.gtfs_table.specs.Tables.{field_under}
use Rattle.gtfs_row_rules.specs.RowKeys.{key_at, numbered_in, numbered_key}
use Rattle.gtfs_row_rules.proofs.KeySteps.{numbered_found, same_keys}
use Rattle.gtfs_row_rules.proofs.keys.repeated_numbered.Goals as goal

pub returns-clause-rule : goal.returns-clause-rule
returns-clause-rule c =
    let d = c.args.tables.now in
    let x = c.args.file in (
      (λ n. c.requires n ∙ same_keys (numbered_in c.args.kind d x c.args.id.now c.args.number.now)
          (key_at (λ r. numbered_key c.args.kind (field_under r c.column.result) (field_under r c.column-2.result)) d x)
          (numbered_found c.args.kind d x c.args.id.now c.args.number.now c.column.result c.column-2.result c.column.ensures c.column-2.ensures) d x n),
      (λ q. rw c.new.ensures.empty refl),
    )

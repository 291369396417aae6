use Rattle.gtfs_table.specs.Tables.{field_under}
use Rattle.gtfs_schema.specs.steps.UnknownIds.{is_unknown_in_both}
use Rattle.gtfs_row_rules.proofs.references.UnknownServiceRule.breaks.Goals as goal

pub returns-clause-same : goal.returns-clause-same
returns-clause-same c = λ i n r. is_unknown_in_both (c.first_row.ensures.same i) (c.first_row-2.ensures.same i) (field_under r c.args.self.now.column)

use Rattle.std.proofs.Common.{◌∙◌}
use Rattle.gtfs_table.proofs.ShortFacts.{field-after}
use Rattle.gtfs_table.proofs.StoreFacts.{on_ok-map}
use Rattle.gtfs_table.proofs.records.Records.push_field.Goals as goal

pub returns-clause-ok : goal.returns-clause-ok
returns-clause-ok c =
    let short = c.make_last_long.new.short in
    let long = c.make_last_long.new.long in
    on_ok-map c.push_field.result _ _ (field-after short long c.push_field.new.self c.args.self.now c.args.field.now (c.make_last_long.ensures.kept ∙ c.self.view_is) c.in_ok-make_last_long.ensures.long)
    c.push_field.ensures.ok

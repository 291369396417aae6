use Rattle.std.proofs.Common.{ap, codes, ◌∙◌}
use Rattle.gtfs_table.specs.Rows.{records_in}
use Rattle.gtfs_table.specs.declared.file.File.TheVariants as file
use Rattle.gtfs_table.proofs.RowFacts.{value_is}
use Rattle.gtfs_schema.specs.steps.StopTypes.{type_in_text}
use Rattle.gtfs_schema.proofs.location_types.type_at.Goals as goal

pub returns : goal.returns
returns c = c.read_type.ensures ∙ ap type_in_text (c.value.ensures
    ∙ value_is (records_in c.args.tables.now file.Stops) c.args.row c.record.result (codes "location_type") c.args.index c.record.ensures c.requires)

use Rattle.std.proofs.Common.{ap, codes}
use Rattle.gtfs_table.specs.Tables.{field_under, record_at}
use Rattle.gtfs_table.specs.declared.file.File.TheVariants as file
use Rattle.gtfs_table.specs.Rows.{is_row, records_in}
use Rattle.gtfs_schema.specs.RowConditions.{text_in}
use Rattle.gtfs_row_rules.proofs.StopKindFacts.{parent_reported}
use Rattle.gtfs_row_rules.proofs.stop_kinds.has_other_parent.Goals as goal

pub returns : goal.returns
returns c = λ n. parent_reported c.args.tables.now c.args.types.now c.requires.types c.args.stops.now c.requires.ids
    (is_row (records_in c.args.tables.now file.Stops) n) n (text_in c.args.tables.now file.Stops n (codes "parent_station")) _ _
    (ap (field_under (record_at (records_in c.args.tables.now file.Stops) n)) c.column.ensures) c.new.ensures

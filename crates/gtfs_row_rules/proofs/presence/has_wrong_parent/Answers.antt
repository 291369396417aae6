use Rattle.std.proofs.Common.{ap}
use Rattle.gtfs_table.specs.Rows.{records_in}
use Rattle.gtfs_table.specs.Tables.{field_under, record_at}
use Rattle.gtfs_table.specs.declared.file.File.TheVariants as file
use Rattle.gtfs_row_rules.proofs.PresenceFacts.{parent_reported}
use Rattle.gtfs_row_rules.proofs.presence.has_wrong_parent.Goals as goal

pub returns : goal.returns
returns c = λ n. let fields = record_at (records_in c.args.tables.now file.Stops) n in
    parent_reported c.args.tables.now n _ _ (ap (field_under fields) c.column.ensures) (ap (field_under fields) c.column-2.ensures)

use Rattle.std.proofs.Common.{ap}
use Rattle.gtfs_table.specs.Rows.{records_in}
use Rattle.gtfs_table.specs.Tables.{field_under, record_at}
use Rattle.gtfs_schema.proofs.ReferenceFacts.{read_alike}
use Rattle.gtfs_row_rules.proofs.references.unknown.Goals as goal

pub returns : goal.returns
returns c = λ n. read_alike _ _ c.args.ids.now _ _ _ (c.requires n) c.new.ensures
    (ap (field_under (record_at (records_in c.args.tables.now c.args.file) n)) c.column.ensures)

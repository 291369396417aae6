use Rattle.std.proofs.Common.{ap}
use Rattle.gtfs_table.specs.Rows.{records_in}
use Rattle.gtfs_table.specs.Tables.{field_under, record_at}
use Rattle.gtfs_row_rules.proofs.SingleKeyFacts.{repeats_alike}
use Rattle.gtfs_row_rules.proofs.single_keys.repeated.Goals as goal

pub returns : goal.returns
returns c = λ n. repeats_alike _ _ c.args.ids.now _ _ _ n (c.requires n) c.new.ensures
    (ap (field_under (record_at (records_in c.args.tables.now c.args.file) n)) c.column.ensures)

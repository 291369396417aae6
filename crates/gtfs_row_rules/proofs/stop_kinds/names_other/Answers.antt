use Rattle.std.proofs.Common.{[], ◌∷◌, ap}
use Rattle.gtfs_table.specs.Rows.{records_in}
use Rattle.gtfs_table.specs.Tables.{field_under, record_at}
use Rattle.gtfs_table.specs.declared.file.File.TheVariants as file
use Rattle.gtfs_row_rules.proofs.StopKindFacts.{kinds_alike}
use Rattle.gtfs_row_rules.proofs.stop_kinds.names_other.Goals as goal

pub returns : goal.returns
returns c = λ n. kinds_alike _ _ c.args.types.now (0 ∷ 1 ∷ []) c.args.stops.now _ _ _ (c.requires n) c.new.ensures
    (ap (field_under (record_at (records_in c.args.tables.now file.Transfers) n)) c.column.ensures)

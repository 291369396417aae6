use Rattle.std.specs.Prelude.{◌&&◌}
use Rattle.gtfs_table.specs.Rows.{is_empty, records_in}
use Rattle.gtfs_table.specs.Tables.{field_under, record_at}
use Rattle.gtfs_table.specs.declared.file.File.TheVariants as file
use Rattle.gtfs_row_rules.proofs.presence.lacks_name.Goals as goal

pub returns : goal.returns
returns c = λ n i. let fields = record_at (records_in c.args.tables.now file.Routes) n in
    is_empty (field_under fields (c.column.ensures i)) && is_empty (field_under fields (c.column-2.ensures i))

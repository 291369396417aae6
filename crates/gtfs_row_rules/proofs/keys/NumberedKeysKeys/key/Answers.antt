use Rattle.std.proofs.Common.{◌∙◌, ap}
use Rattle.std.specs.Prelude.{option_map}
use Rattle.gtfs_table.specs.Rows.{records_in}
use Rattle.gtfs_table.specs.Tables.{field_under, record_at}
use Rattle.gtfs_schema.specs.Columns.{id}
use Rattle.gtfs_schema.specs.ReadFields.{amount_of, word_of}
use Rattle.gtfs_row_rules.specs.RowKeys.{kind_of_number}
use Rattle.gtfs_row_rules.proofs.KeyParts.{numbered_read}
use Rattle.gtfs_row_rules.proofs.keys.NumberedKeysKeys.key.Goals as goal

pub returns : goal.returns
returns c =
    let keys = c.args.self.now in
    let r = record_at (records_in keys.tables.now keys.file) c.args.row in
    ap (option_map _) c.zip.ensures
    ∙ numbered_read keys.kind (λ t. t.now) c.id-id.result c.read-number.result (field_under r keys.id) (field_under r keys.number)
    (c.id-id.ensures ∙ ap (word_of id) (c.value.ensures ∙ ap (λ r. field_under r keys.id) c.record-record.ensures)) (c.read-number.ensures ∙ ap (amount_of (kind_of_number keys.kind)) (c.value-2.ensures ∙ ap (λ r. field_under r keys.number) c.record-record.ensures))

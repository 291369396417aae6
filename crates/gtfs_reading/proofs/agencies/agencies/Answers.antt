use Rattle.std.proofs.Common.{◌≡◌, ◌∙◌, ap, map, refl, sym}
use Rattle.gtfs_table.specs.declared.file.File.TheVariants as file
use Rattle.gtfs_schema.specs.Columns.{id, optional}
use Rattle.gtfs_schema.specs.steps.Ids.{rows_by_number}
use Rattle.gtfs_rows.specs.ContentRead.{agency_in, content_of}
use Rattle.gtfs_rows.specs.RowsInMemory.{agency_of}
use Rattle.gtfs_reading.proofs.Filled.{list_filled}
use Rattle.gtfs_reading.proofs.IdTexts.{content_list}
use Rattle.gtfs_reading.proofs.agencies.agencies.Goals as goal

pub returns : goal.returns
returns c =
    let d = c.args.tables.now in
    let items = c.push_agencies.new.agencies.items in
    let content = content_list d c.requires.passes file.Agency "agency_id" (optional "agency_id" id) refl refl (λ r. r.agency_id) (agency_in d) (λ n. refl) in
    list_filled (λ rows. map agency_of rows ≡ (content_of d).agencies) c.push_agencies.result c.and.result items c.new.result c.and.ensures c.new.ensures
    c.push_agencies.ensures (λ listed.
    listed ∙ ap (λ i. map (agency_in d) (rows_by_number i)) c.requires.ids ∙ sym content)

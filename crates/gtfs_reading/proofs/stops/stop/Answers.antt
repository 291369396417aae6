use Rattle.std.proofs.Common.{[], ap, codes, true, ◌∙◌, ◌∷◌, ◌≡◌}
use Rattle.gtfs_field.specs.declared.coord.Axis.TheVariants.{Latitude, Longitude}
use Rattle.gtfs_table.specs.declared.file.File.TheVariants as file
use Rattle.gtfs_schema.specs.Columns as kind
use Rattle.gtfs_schema.specs.ReadFields.{amount_of}
use Rattle.gtfs_rows.specs.ContentRead.{stop_in}
use Rattle.gtfs_rows.specs.RowsInMemory.{text_of_number}
use Rattle.gtfs_reading.specs.NamedTexts.{ids_of}
use Rattle.gtfs_rows.specs.NamedRows.{names_parent, stop_named}
use Rattle.gtfs_reading.specs.NumbersOfIds.{chosen}
use Rattle.gtfs_reading.proofs.Fields.{field_at, numbers_of}
use Rattle.gtfs_reading.proofs.Filled.{filled}
use Rattle.gtfs_reading.proofs.ReferenceFacts.{end_within, parent_named}
use Rattle.gtfs_reading.proofs.stops.stop.Goals as goal

pub returns-clause-value : goal.returns-clause-value
returns-clause-value c =
    let d = c.args.tables.now in
    let text = field_at d file.Stops c.args.row _ _ c.record-record.ensures c.requires.columns in
    let parent = c.value-4.ensures ∙ text 9 in
    let named = parent_named d c.requires.passes c.args.row c.requires.row _ _ _ c.requires.stops parent (c.as_stop.ensures ∙ c.number.ensures.number) in
    let ids = ids_of d file.Stops "stop_id" in
    filled (λ r. stop_named ids r ≡ stop_in d c.args.row) c.read_texts.result c.and.result c.read_texts.new.stop c.and.ensures
    c.read_texts.ensures (λ texts. ap (stop_named ids) (texts d c.args.row c.requires.columns c.record-record.ensures) ∙ λ i. record (stop_in d c.args.row) {
      stop_lat = (c.coordinate.ensures.value ∙ ap (amount_of (kind.coordinate Latitude)) (c.value.ensures ∙ text 5)) i;
      stop_lon = (c.coordinate-2.ensures.value ∙ ap (amount_of (kind.coordinate Longitude)) (c.value-2.ensures ∙ text 6)) i;
      location_type = (c.location_type.ensures ∙ ap (chosen ((0, 4) ∷ []) (codes "0")) (c.value-3.ensures ∙ text 8)) i;
      parent_station = (numbers_of (λ n. n.0) (text_of_number ids) c.as_stop.result ∙ named) i;
      wheelchair_boarding = (c.wheelchair_boarding.ensures ∙ ap (chosen ((0, 2) ∷ []) (codes "0")) (c.value-5.ensures ∙ text 10)) i;
    })

pub returns-clause-number : goal.returns-clause-number
returns-clause-number c =
    let d = c.args.tables.now in
    filled (λ r. names_parent (ids_of d file.Stops "stop_id") r ≡ true) c.read_texts.result c.and.result c.read_texts.new.stop c.and.ensures
    c.read_texts.ensures (λ texts. ap (names_parent (ids_of d file.Stops "stop_id")) (texts d c.args.row c.requires.columns c.record-record.ensures)
    ∙ end_within c.args.tables.now file.Stops "stop_id" _ _ _ c.requires.stops (c.as_stop.ensures ∙ c.number.ensures.number))

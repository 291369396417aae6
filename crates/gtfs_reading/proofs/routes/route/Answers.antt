use Rattle.std.proofs.Common.{ap, codes, true, ◌∙◌, ◌≡◌}
use Rattle.std.specs.Prelude.{pos, unsigned_abs, unwrap_or}
use Rattle.gtfs_table.specs.declared.file.File.TheVariants as file
use Rattle.gtfs_schema.specs.Columns as kind
use Rattle.gtfs_schema.specs.ReadFields.{colour_or}
use Rattle.gtfs_rows.specs.ContentRead.{route_in}
use Rattle.gtfs_reading.specs.NamedTexts.{ids_of}
use Rattle.gtfs_rows.specs.NamedRows.{names_agency, route_named}
use Rattle.gtfs_reading.specs.NumbersOfIds.{number_if_there, number_of}
use Rattle.gtfs_reading.proofs.Fields.{field_at}
use Rattle.gtfs_reading.proofs.Filled.{filled}
use Rattle.gtfs_reading.proofs.ReferenceFacts.{agency_named, agency_within}
use Rattle.gtfs_reading.proofs.routes.route.Goals as goal

pub returns-clause-value : goal.returns-clause-value
returns-clause-value c =
    let d = c.args.tables.now in
    let text = field_at d file.Routes c.args.row _ _ c.record-record.ensures c.requires.columns in
    let agency = c.value.ensures ∙ text 1 in
    let named = agency_named d c.requires.passes c.args.row c.requires.row _ _ c.unwrap_or-agency.result c.requires.agencies agency (c.unwrap_or-agency.ensures ∙ ap (λ o. unwrap_or o 0) c.number.ensures.number) in
    filled (λ r. route_named (ids_of d file.Agency "agency_id") r ≡ route_in d c.args.row) c.read_texts.result c.and.result c.read_texts.new.route c.and.ensures
    c.read_texts.ensures (λ texts. ap (route_named (ids_of d file.Agency "agency_id")) (texts d c.args.row c.requires.columns c.record-record.ensures) ∙ λ i. record (route_in d c.args.row) {
      agency_id = named i;
      route_type = (c.route_type.ensures ∙ ap (number_of kind.route_types) (c.value-2.ensures ∙ text 5)) i;
      route_color = (c.colour.ensures ∙ ap (λ t. unsigned_abs (unwrap_or (colour_or (codes "FFFFFF") t) (pos 0))) (c.value-3.ensures ∙ text 7)) i;
      route_text_color = (c.colour-2.ensures ∙ ap (λ t. unsigned_abs (unwrap_or (colour_or (codes "000000") t) (pos 0))) (c.value-4.ensures ∙ text 8)) i;
      route_sort_order = (c.optional_count.ensures ∙ ap (number_if_there kind.count) (c.value-5.ensures ∙ text 9)) i;
    })

pub returns-clause-number : goal.returns-clause-number
returns-clause-number c =
    let d = c.args.tables.now in
    filled (λ r. names_agency (ids_of d file.Agency "agency_id") r ≡ true) c.read_texts.result c.and.result c.read_texts.new.route c.and.ensures
    c.read_texts.ensures (λ texts. ap (names_agency (ids_of d file.Agency "agency_id")) (texts d c.args.row c.requires.columns c.record-record.ensures)
    ∙ agency_within d c.requires.passes _ _ c.unwrap_or-agency.result c.requires.agencies (c.unwrap_or-agency.ensures ∙ ap (λ o. unwrap_or o 0) c.number.ensures.number))

use Rattle.std.proofs.Common.{[], ap, codes, refl, true, ◌∙◌, ◌∷◌, ◌≡◌}
use Rattle.std.specs.Prelude.{unwrap_or}
use Rattle.gtfs_table.specs.declared.file.File.TheVariants as file
use Rattle.gtfs_schema.specs.Columns as kind
use Rattle.gtfs_rows.specs.ContentRead.{trip_in}
use Rattle.gtfs_rows.specs.RowsInMemory.{text_of_number}
use Rattle.gtfs_reading.specs.NamedTexts.{ids_of}
use Rattle.gtfs_rows.specs.NamedRows.{names_route_and_service, trip_named, without_rows}
use Rattle.gtfs_reading.specs.NumbersOfIds.{chosen, number_if_there}
use Rattle.gtfs_reading.specs.ServiceIds.{service_ids}
use Rattle.gtfs_reading.proofs.Fields.{field_at}
use Rattle.gtfs_reading.proofs.Filled.{filled}
use Rattle.gtfs_reading.proofs.ReferenceFacts.{route_named_by, route_within, service_named_by, service_within}
use Rattle.gtfs_reading.proofs.trips.trip.Goals as goal

pub returns-clause-value : goal.returns-clause-value
returns-clause-value c =
    let d = c.args.tables.now in
    let text = field_at d file.Trips c.args.row _ _ c.record-record.ensures c.requires.columns in
    let route = c.value.ensures ∙ text 0 in
    let service = c.value-2.ensures ∙ text 1 in
    let by_route = route_named_by d c.requires.passes c.args.row c.requires.row _ _ c.unwrap_or-route.result c.requires.routes route (c.unwrap_or-route.ensures ∙ ap (λ o. unwrap_or o 0) c.number.ensures.number) in
    let by_service = service_named_by d c.requires.passes c.args.row c.requires.row _ _ c.find-service.result c.requires.services c.requires.named service c.find-service.ensures in
    filled (λ r. trip_named (ids_of d file.Routes "route_id") (service_ids d) r ≡ without_rows (trip_in d c.args.row)) c.read_texts.result c.and.result c.read_texts.new.trip c.and.ensures
    c.read_texts.ensures (λ texts. ap (trip_named (ids_of d file.Routes "route_id") (service_ids d)) (texts d c.args.row c.requires.columns c.record-record.ensures) ∙ λ i. record (without_rows (trip_in d c.args.row)) {
      route_id = by_route i;
      service_id = (ap (text_of_number (service_ids d)) c.unwrap_or.ensures ∙ by_service) i;
      direction_id = (c.direction.ensures ∙ ap (number_if_there (kind.up_to 1)) (c.value-3.ensures ∙ text 5)) i;
      wheelchair_accessible = (c.wheelchair_accessible.ensures ∙ ap (chosen ((0, 2) ∷ []) (codes "0")) (c.value-4.ensures ∙ text 6)) i;
      bikes_allowed = (c.bikes_allowed.ensures ∙ ap (chosen ((0, 2) ∷ []) (codes "0")) (c.value-5.ensures ∙ text 7)) i;
    })

pub returns-clause-numbers : goal.returns-clause-numbers
returns-clause-numbers c =
    let d = c.args.tables.now in
    let text = field_at d file.Trips c.args.row _ _ c.record-record.ensures c.requires.columns in
    let route = c.value.ensures ∙ text 0 in
    let service = c.value-2.ensures ∙ text 1 in
    let of_route = route_within d c.requires.passes c.args.row c.requires.row _ _ c.unwrap_or-route.result c.requires.routes route (c.unwrap_or-route.ensures ∙ ap (λ o. unwrap_or o 0) c.number.ensures.number) in
    let of_service = service_within d c.requires.passes c.args.row c.requires.row _ _ c.find-service.result c.requires.services c.requires.named service c.find-service.ensures in
    filled (λ r. names_route_and_service (ids_of d file.Routes "route_id") (service_ids d) r ≡ true) c.read_texts.result c.and.result c.read_texts.new.trip c.and.ensures
    c.read_texts.ensures (λ texts. ap (names_route_and_service (ids_of d file.Routes "route_id") (service_ids d)) (texts d c.args.row c.requires.columns c.record-record.ensures)
    ∙ rw (c.unwrap_or.ensures, of_route, of_service) refl)

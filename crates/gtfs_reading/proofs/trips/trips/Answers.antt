use Rattle.std.proofs.Common.{◌≡◌, ◌∙◌, ap, codes, map, refl, sym, true}
use Rattle.std.specs.List.{list_all}
use Rattle.std.proofs.lemmas.Simd.{map-map}
use Rattle.gtfs_table.specs.declared.file.File.TheVariants as file
use Rattle.gtfs_schema.specs.Columns.{id, required}
use Rattle.gtfs_schema.specs.steps.Ids.{first_rows, rows_by_number}
use Rattle.gtfs_rows.specs.ContentRead.{content_of, trip_in}
use Rattle.gtfs_reading.specs.NamedTexts.{ids_of}
use Rattle.gtfs_rows.specs.NamedRows.{names_route_and_service, trip_named, without_rows}
use Rattle.gtfs_reading.specs.ServiceIds.{service_ids}
use Rattle.gtfs_reading.proofs.Filled.{list_filled}
use Rattle.gtfs_reading.proofs.IdTexts.{content_list}
use Rattle.gtfs_reading.proofs.trips.trips.Goals as goal

pub returns-clause-rows : goal.returns-clause-rows
returns-clause-rows c =
    let d = c.args.tables.now in
    let items = c.push_trips.new.trips.items in
    list_filled (λ rows. map (trip_named (ids_of d file.Routes "route_id") (service_ids d)) rows ≡ map without_rows (content_of d).trips) c.push_trips.result c.and.result items c.new.result c.and.ensures c.new.ensures
    c.push_trips.ensures.rows (λ listed.
    listed ∙ ap (λ i. map (λ n. without_rows (trip_in d n)) (rows_by_number i)) c.requires.ids
    ∙ sym (ap (map without_rows) (content_list d c.requires.passes file.Trips "trip_id" (required "trip_id" id) refl refl (λ r. r.trip_id) (trip_in d) (λ n. refl)) ∙ map-map without_rows (trip_in d) (rows_by_number (first_rows d file.Trips (codes "trip_id")))))

pub returns-clause-numbers : goal.returns-clause-numbers
returns-clause-numbers c =
    let d = c.args.tables.now in
    let items = c.push_trips.new.trips.items in
    list_filled (λ rows. list_all (names_route_and_service (ids_of d file.Routes "route_id") (service_ids d)) rows ≡ true) c.push_trips.result c.and.result items c.new.result c.and.ensures c.new.ensures
    c.push_trips.ensures.numbers (λ within. within)

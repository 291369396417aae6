use Rattle.std.proofs.Common.{◌≡◌, ◌∙◌, ap, map, refl, sym, true}
use Rattle.std.specs.List.{list_all}
use Rattle.gtfs_table.specs.declared.file.File.TheVariants as file
use Rattle.gtfs_schema.specs.Columns.{id, required}
use Rattle.gtfs_schema.specs.steps.Ids.{rows_by_number}
use Rattle.gtfs_rows.specs.ContentRead.{content_of, route_in}
use Rattle.gtfs_reading.specs.NamedTexts.{ids_of}
use Rattle.gtfs_rows.specs.NamedRows.{names_agency, route_named}
use Rattle.gtfs_reading.proofs.Filled.{list_filled}
use Rattle.gtfs_reading.proofs.IdTexts.{content_list}
use Rattle.gtfs_reading.proofs.routes.routes.Goals as goal

pub returns-clause-rows : goal.returns-clause-rows
returns-clause-rows c =
    let d = c.args.tables.now in
    let items = c.push_routes.new.routes.items in
    list_filled (λ rows. map (route_named (ids_of d file.Agency "agency_id")) rows ≡ (content_of d).routes) c.push_routes.result c.and.result items c.new.result c.and.ensures c.new.ensures
    c.push_routes.ensures.rows (λ listed.
    listed ∙ ap (λ i. map (route_in d) (rows_by_number i)) c.requires.ids
    ∙ sym (content_list d c.requires.passes file.Routes "route_id" (required "route_id" id) refl refl (λ r. r.route_id) (route_in d) (λ n. refl)))

pub returns-clause-numbers : goal.returns-clause-numbers
returns-clause-numbers c =
    let d = c.args.tables.now in
    let items = c.push_routes.new.routes.items in
    list_filled (λ rows. list_all (names_agency (ids_of d file.Agency "agency_id")) rows ≡ true) c.push_routes.result c.and.result items c.new.result c.and.ensures c.new.ensures
    c.push_routes.ensures.numbers (λ within. within)

use Rattle.std.proofs.Common.{◌≡◌, ◌∙◌, ap, map, refl, sym, true}
use Rattle.std.specs.List.{list_all}
use Rattle.gtfs_table.specs.declared.file.File.TheVariants as file
use Rattle.gtfs_schema.specs.Columns.{id, required}
use Rattle.gtfs_schema.specs.steps.Ids.{rows_by_number}
use Rattle.gtfs_rows.specs.ContentRead.{content_of, stop_in}
use Rattle.gtfs_reading.specs.NamedTexts.{ids_of}
use Rattle.gtfs_rows.specs.NamedRows.{names_parent, stop_named}
use Rattle.gtfs_reading.proofs.Filled.{list_filled}
use Rattle.gtfs_reading.proofs.IdTexts.{content_list}
use Rattle.gtfs_reading.proofs.stops.stops.Goals as goal

pub returns-clause-rows : goal.returns-clause-rows
returns-clause-rows c =
    let d = c.args.tables.now in
    let items = c.push_stops.new.stops.items in
    list_filled (λ rows. map (stop_named (ids_of d file.Stops "stop_id")) rows ≡ (content_of d).stops) c.push_stops.result c.and.result items c.new.result c.and.ensures c.new.ensures
    c.push_stops.ensures.rows (λ listed.
    listed ∙ ap (λ i. map (stop_in d) (rows_by_number i)) c.requires.ids
    ∙ sym (content_list d c.requires.passes file.Stops "stop_id" (required "stop_id" id) refl refl (λ r. r.stop_id) (stop_in d) (λ n. refl)))

pub returns-clause-numbers : goal.returns-clause-numbers
returns-clause-numbers c =
    let d = c.args.tables.now in
    let items = c.push_stops.new.stops.items in
    list_filled (λ rows. list_all (names_parent (ids_of d file.Stops "stop_id")) rows ≡ true) c.push_stops.result c.and.result items c.new.result c.and.ensures c.new.ensures
    c.push_stops.ensures.numbers (λ within. within)

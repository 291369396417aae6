use Rattle.std.proofs.Common.{◌≡◌, ◌<◌, ◌≤◌, ◌∙◌, List, ℕ, Some, ap, arith, get_or, length, map, option_map, slice_get, subst, sym}
use Rattle.std.specs.List.{list_all}
use Rattle.std.proofs.lemmas.List.{length-map}
use Rattle.gtfs_rows.specs.NamedRows.{names_route_and_service, trip_named, without_rows}
use Rattle.gtfs_rows.specs.RowsInMemory.{route_ids, service_ids}
use Rattle.gtfs_rows.specs.declared.parts.Parts.{Parts}
use Rattle.gtfs_merge.specs.MergeEntries.{entry_value}
use Rattle.gtfs_merge.specs.EntryRows.{AreMergedRows, trip_from}
use Rattle.gtfs_merge.specs.NewNumbers.{numbers_of}
use Rattle.gtfs_merge.specs.MergedSides.{merged_ids, merged_parts, side_names, side_parts}
use Rattle.gtfs_merge.specs.declared.kind.Kind.TheVariants as kind
use Rattle.gtfs_merge.proofs.MergedLists.{all-more, numbers-long, plain-rows, route-inside, row-named, row-within, rows-all, rows-more, service-inside, side-sound, trip-row}
use Rattle.gtfs_merge.proofs.Ordering.{own-row, row_at}
use Rattle.gtfs_merge.proofs.rows.trips.merged_trips.Goals as goal

pub trip_by_number-source-requires : goal.trip_by_number-source-requires
trip_by_number-source-requires c =
    let sides = c.args.sides.now in
    let row = row_at c.rows-rows.result.now c.loop-row.row-index in
    let are = subst (AreMergedRows kind.Trip sides) (sym c.rows-rows.ensures) c.requires.trips.rows in
    let within = row-within kind.Trip sides c.rows-rows.result.now are c.loop-row.row-index c.loop-row-test.true row (own-row c.rows-rows.result.now c.loop-row.row-index c.loop-row-test.true) in
    subst (λ (f : Parts). row.number < length f.trips) (sym c.of.ensures) (omega (arith, within, length-map (side_parts row.side sides).trips (λ s. s.trip_id)))

pub renumbered_route-route-requires : goal.renumbered_route-route-requires
renumbered_route-route-requires c =
    let sides = c.args.sides.now in
    let row = row_at c.rows-rows.result.now c.loop-row.row-index in
    let source = c.trip_by_number-source.result.now in
    let f = side_parts row.side sides in
    let at = subst (λ (f : Parts). slice_get f.trips row.number ≡ Some source) c.of.ensures c.trip_by_number-source.ensures in
    let inside = route-inside f (side-sound row.side sides c.soundness.ensures.a c.soundness.ensures.b) row.number source at in
    let long = ap length c.numbers-route_numbers.ensures ∙ numbers-long (merged_ids kind.Route sides) (side_names row.side sides).route (route_ids f) (numbers_of c.args.routes.now.numbers row.side) (c.requires.routes.numbers row.side) in
    subst (λ (m : ℕ). source.route_id.0 < m) (sym long) inside

pub renumbered_service-service-requires : goal.renumbered_service-service-requires
renumbered_service-service-requires c =
    let sides = c.args.sides.now in
    let row = row_at c.rows-rows.result.now c.loop-row.row-index in
    let source = c.trip_by_number-source.result.now in
    let f = side_parts row.side sides in
    let at = subst (λ (f : Parts). slice_get f.trips row.number ≡ Some source) c.of.ensures c.trip_by_number-source.ensures in
    let inside = service-inside f (side-sound row.side sides c.soundness.ensures.a c.soundness.ensures.b) row.number source at in
    let long = ap length c.numbers-service_numbers.ensures ∙ numbers-long (merged_ids kind.Service sides) (side_names row.side sides).service (service_ids f) (numbers_of c.args.services.now.numbers row.side) (c.requires.services.numbers row.side) in
    subst (λ (m : ℕ). source.service_id.0 < m) (sym long) inside

pub loop-row-preserved : goal.loop-row-preserved
loop-row-preserved c =
    let sides = c.args.sides.now in
    let rows = c.rows-rows.result.now in
    let index = c.loop-row.row-index in
    let row = row_at c.rows-rows.result.now c.loop-row.row-index in
    let items = c.loop-row.list.items in
    let source = c.trip_by_number-source.result.now in
    let made = c.in_ok-under.field-0 in
    let are = subst (AreMergedRows kind.Trip sides) (sym c.rows-rows.ensures) c.requires.trips.rows in
    let routes = numbers_of c.args.routes.now.numbers row.side in
    let services = numbers_of c.args.services.now.numbers row.side in
    let f = side_parts row.side sides in
    let sound = side-sound row.side sides c.soundness.ensures.a c.soundness.ensures.b in
    let at = subst (λ (f : Parts). slice_get f.trips row.number ≡ Some source) c.of.ensures c.trip_by_number-source.ensures in
    let named = row-named kind.Trip sides rows are index c.loop-row-test.true row (own-row c.rows-rows.result.now c.loop-row.row-index c.loop-row-test.true) in
    let route = c.renumbered_route-route.ensures ∙ ap (λ (ns : List ℕ). get_or ns source.route_id.0 0) c.numbers-route_numbers.ensures in
    let service = c.renumbered_service-service.ensures ∙ ap (λ (ns : List ℕ). get_or ns source.service_id.0 0) c.numbers-service_numbers.ensures in
    let both = trip-row sides row.side row.number row.id.now sound routes services (c.requires.routes.numbers row.side) (c.requires.services.numbers row.side) source made _ _ at named
    route (route-inside f sound row.number source at) service (service-inside f sound row.number source at) c.in_ok-under.ensures in
    record {
      listed = rows-more (trip_named (merged_ids kind.Route sides) (merged_ids kind.Service sides)) (λ e. option_map without_rows (trip_from sides e)) rows index items _ made row c.loop-row-test.true c.loop-row.invariant.listed c.in_ok-push.ensures.items (own-row c.rows-rows.result.now c.loop-row.row-index c.loop-row-test.true) both.0;
      within = all-more (names_route_and_service (merged_ids kind.Route sides) (merged_ids kind.Service sides)) items _ made c.loop-row.invariant.within c.in_ok-push.ensures.items both.1;
    }

pub returns-clause-rows : goal.returns-clause-rows
returns-clause-rows c =
    let sides = c.args.sides.now in
    let rows = c.rows-rows.result.now in
    let are = subst (AreMergedRows kind.Trip sides) (sym c.rows-rows.ensures) c.requires.trips.rows in
    let past : length rows ≤ c.loop-row.row-index = omega (arith, c.loop-row-test.false) in
    ap (map (trip_named (merged_ids kind.Route sides) (merged_ids kind.Service sides))) c.new.ensures
    ∙ rows-all (trip_named (merged_ids kind.Route sides) (merged_ids kind.Service sides)) (λ e. option_map without_rows (trip_from sides e)) rows c.loop-row.row-index c.loop-row.list.items (map without_rows (merged_parts sides).trips) past
    c.loop-row.invariant.listed (plain-rows sides (map entry_value rows) are.rows)

pub returns-clause-references : goal.returns-clause-references
returns-clause-references c = ap (list_all (names_route_and_service (merged_ids kind.Route c.args.sides.now) (merged_ids kind.Service c.args.sides.now))) c.new.ensures ∙ c.loop-row.invariant.within

use Rattle.std.proofs.Common.{◌≡◌, ◌<◌, ◌≤◌, ◌∙◌, List, ℕ, Some, ap, arith, get_or, length, map, slice_get, subst, sym}
use Rattle.std.specs.List.{list_all}
use Rattle.std.proofs.lemmas.List.{length-map}
use Rattle.gtfs_rows.specs.NamedRows.{names_agency, route_named}
use Rattle.gtfs_rows.specs.RowsInMemory.{agency_ids}
use Rattle.gtfs_rows.specs.declared.parts.Parts.{Parts}
use Rattle.gtfs_merge.specs.EntryRows.{AreMergedRows, route_from}
use Rattle.gtfs_merge.specs.NewNumbers.{numbers_of}
use Rattle.gtfs_merge.specs.MergedSides.{merged_ids, merged_parts, side_names, side_parts}
use Rattle.gtfs_merge.specs.declared.kind.Kind.TheVariants as kind
use Rattle.gtfs_merge.proofs.MergedLists.{agency-inside, all-more, numbers-long, route-row, row-named, row-within, rows-all, rows-more, side-sound}
use Rattle.gtfs_merge.proofs.Ordering.{own-row, row_at}
use Rattle.gtfs_merge.proofs.rows.routes.merged_routes.Goals as goal

pub route_by_number-source-requires : goal.route_by_number-source-requires
route_by_number-source-requires c =
    let sides = c.args.sides.now in
    let row = row_at c.rows-rows.result.now c.loop-row.row-index in
    let are = subst (AreMergedRows kind.Route sides) (sym c.rows-rows.ensures) c.requires.routes.rows in
    let within = row-within kind.Route sides c.rows-rows.result.now are c.loop-row.row-index c.loop-row-test.true row (own-row c.rows-rows.result.now c.loop-row.row-index c.loop-row-test.true) in
    subst (λ (f : Parts). row.number < length f.routes) (sym c.of.ensures) (omega (arith, within, length-map (side_parts row.side sides).routes (λ s. s.route_id)))

pub renumbered-agency-requires : goal.renumbered-agency-requires
renumbered-agency-requires c =
    let sides = c.args.sides.now in
    let row = row_at c.rows-rows.result.now c.loop-row.row-index in
    let source = c.route_by_number-source.result.now in
    let f = side_parts row.side sides in
    let at = subst (λ (f : Parts). slice_get f.routes row.number ≡ Some source) c.of.ensures c.route_by_number-source.ensures in
    let inside = agency-inside f (side-sound row.side sides c.soundness.ensures.a c.soundness.ensures.b) row.number source at in
    let long = ap length c.numbers.ensures ∙ numbers-long (merged_ids kind.Agency sides) (side_names row.side sides).agency (agency_ids f) (numbers_of c.args.agencies.now.numbers row.side) (c.requires.agencies.numbers row.side) in
    subst (λ (m : ℕ). source.agency_id.0 < m) (sym long) inside

pub loop-row-preserved : goal.loop-row-preserved
loop-row-preserved c =
    let sides = c.args.sides.now in
    let rows = c.rows-rows.result.now in
    let index = c.loop-row.row-index in
    let row = row_at c.rows-rows.result.now c.loop-row.row-index in
    let items = c.loop-row.list.items in
    let source = c.route_by_number-source.result.now in
    let made = c.in_ok-under.field-0 in
    let are = subst (AreMergedRows kind.Route sides) (sym c.rows-rows.ensures) c.requires.routes.rows in
    let numbers = numbers_of c.args.agencies.now.numbers row.side in
    let f = side_parts row.side sides in
    let at = subst (λ (f : Parts). slice_get f.routes row.number ≡ Some source) c.of.ensures c.route_by_number-source.ensures in
    let inside = agency-inside f (side-sound row.side sides c.soundness.ensures.a c.soundness.ensures.b) row.number source at in
    let named = row-named kind.Route sides rows are index c.loop-row-test.true row (own-row c.rows-rows.result.now c.loop-row.row-index c.loop-row-test.true) in
    let agency = c.renumbered-agency.ensures ∙ ap (λ (ns : List ℕ). get_or ns source.agency_id.0 0) c.numbers.ensures in
    let both = route-row sides row.side row.number row.id.now numbers (c.requires.agencies.numbers row.side) source made c.renumbered-agency.result at named agency inside c.in_ok-under.ensures in
    record {
      listed = rows-more (route_named (merged_ids kind.Agency sides)) (route_from sides) rows index items _ made row c.loop-row-test.true c.loop-row.invariant.listed c.in_ok-push.ensures.items (own-row c.rows-rows.result.now c.loop-row.row-index c.loop-row-test.true) both.0;
      within = all-more (names_agency (merged_ids kind.Agency sides)) items _ made c.loop-row.invariant.within c.in_ok-push.ensures.items both.1;
    }

pub returns-clause-rows : goal.returns-clause-rows
returns-clause-rows c =
    let sides = c.args.sides.now in
    let rows = c.rows-rows.result.now in
    let are = subst (AreMergedRows kind.Route sides) (sym c.rows-rows.ensures) c.requires.routes.rows in
    let past : length rows ≤ c.loop-row.row-index = omega (arith, c.loop-row-test.false) in
    ap (map (route_named (merged_ids kind.Agency sides))) c.new.ensures
    ∙ rows-all (route_named (merged_ids kind.Agency sides)) (route_from sides) rows c.loop-row.row-index c.loop-row.list.items (merged_parts sides).routes past c.loop-row.invariant.listed are.rows

pub returns-clause-agencies : goal.returns-clause-agencies
returns-clause-agencies c = ap (list_all (names_agency (merged_ids kind.Agency c.args.sides.now))) c.new.ensures ∙ c.loop-row.invariant.within

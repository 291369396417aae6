use Rattle.std.proofs.Common.{◌≡◌, ◌<◌, ◌≤◌, ◌∙◌, List, ℕ, Some, ap, arith, get_or, length, map, option_map, slice_get, subst, sym}
use Rattle.std.specs.Prelude.{IfSome}
use Rattle.std.specs.List.{list_all}
use Rattle.std.proofs.lemmas.List.{length-map}
use Rattle.gtfs_rows.specs.NamedRows.{names_parent, stop_named}
use Rattle.gtfs_rows.specs.RowsInMemory.{stop_ids}
use Rattle.gtfs_rows.specs.declared.parts.Parts.{Parts}
use Rattle.gtfs_merge.specs.EntryRows.{AreMergedRows, stop_from}
use Rattle.gtfs_merge.specs.NewNumbers.{numbers_of}
use Rattle.gtfs_merge.specs.MergedSides.{merged_ids, merged_parts, side_names, side_parts}
use Rattle.gtfs_merge.specs.declared.kind.Kind.TheVariants as kind
use Rattle.gtfs_merge.proofs.MergedLists.{all-more, numbers-long, parent-inside, row-named, row-within, rows-all, rows-more, side-sound, stop-row}
use Rattle.gtfs_merge.proofs.Ordering.{own-row, row_at}
use Rattle.gtfs_merge.proofs.rows.stops.merged_stops.Goals as goal

pub stop_by_number-source-requires : goal.stop_by_number-source-requires
stop_by_number-source-requires c =
    let sides = c.args.sides.now in
    let row = row_at c.rows-rows.result.now c.loop-row.row-index in
    let are = subst (AreMergedRows kind.Stop sides) (sym c.rows-rows.ensures) c.requires.rows in
    let within = row-within kind.Stop sides c.rows-rows.result.now are c.loop-row.row-index c.loop-row-test.true row (own-row c.rows-rows.result.now c.loop-row.row-index c.loop-row-test.true) in
    subst (λ (f : Parts). row.number < length f.stops) (sym c.of.ensures) (omega (arith, within, length-map (side_parts row.side sides).stops (λ s. s.stop_id)))

pub renumbered-parent-requires : goal.renumbered-parent-requires
renumbered-parent-requires c =
    let sides = c.args.sides.now in
    let row = row_at c.rows-rows.result.now c.loop-row.row-index in
    let source = c.stop_by_number-source.result.now in
    let f = side_parts row.side sides in
    let at = subst (λ (f : Parts). slice_get f.stops row.number ≡ Some source) c.of.ensures c.stop_by_number-source.ensures in
    let inside = parent-inside f (side-sound row.side sides c.soundness.ensures.a c.soundness.ensures.b) row.number source at in
    let long = ap length c.numbers.ensures ∙ numbers-long (merged_ids kind.Stop sides) (side_names row.side sides).stop (stop_ids f) (numbers_of c.args.stops.now.numbers row.side) (c.requires.numbers row.side) in
    subst (λ (m : ℕ). IfSome source.parent_station (λ n. n.0 < m)) (sym long) inside

pub loop-row-preserved : goal.loop-row-preserved
loop-row-preserved c =
    let sides = c.args.sides.now in
    let rows = c.rows-rows.result.now in
    let index = c.loop-row.row-index in
    let row = row_at c.rows-rows.result.now c.loop-row.row-index in
    let items = c.loop-row.list.items in
    let source = c.stop_by_number-source.result.now in
    let made = c.in_ok-under.field-0 in
    let are = subst (AreMergedRows kind.Stop sides) (sym c.rows-rows.ensures) c.requires.rows in
    let numbers = numbers_of c.args.stops.now.numbers row.side in
    let f = side_parts row.side sides in
    let at = subst (λ (f : Parts). slice_get f.stops row.number ≡ Some source) c.of.ensures c.stop_by_number-source.ensures in
    let inside = parent-inside f (side-sound row.side sides c.soundness.ensures.a c.soundness.ensures.b) row.number source at in
    let named = row-named kind.Stop sides rows are index c.loop-row-test.true row (own-row c.rows-rows.result.now c.loop-row.row-index c.loop-row-test.true) in
    let parent = c.renumbered-parent.ensures ∙ ap (λ (ns : List ℕ). option_map (λ n. get_or ns n.0 0) source.parent_station) c.numbers.ensures in
    let both = stop-row sides row.side row.number row.id.now numbers (c.requires.numbers row.side) source made c.renumbered-parent.result at named parent inside c.in_ok-under.ensures in
    record {
      listed = rows-more (stop_named (merged_ids kind.Stop sides)) (stop_from sides) rows index items _ made row c.loop-row-test.true c.loop-row.invariant.listed c.in_ok-push.ensures.items (own-row c.rows-rows.result.now c.loop-row.row-index c.loop-row-test.true) both.0;
      within = all-more (names_parent (merged_ids kind.Stop sides)) items _ made c.loop-row.invariant.within c.in_ok-push.ensures.items both.1;
    }

pub returns-clause-rows : goal.returns-clause-rows
returns-clause-rows c =
    let sides = c.args.sides.now in
    let rows = c.rows-rows.result.now in
    let are = subst (AreMergedRows kind.Stop sides) (sym c.rows-rows.ensures) c.requires.rows in
    let past : length rows ≤ c.loop-row.row-index = omega (arith, c.loop-row-test.false) in
    ap (map (stop_named (merged_ids kind.Stop sides))) c.new.ensures
    ∙ rows-all (stop_named (merged_ids kind.Stop sides)) (stop_from sides) rows c.loop-row.row-index c.loop-row.list.items (merged_parts sides).stops past c.loop-row.invariant.listed are.rows

pub returns-clause-parents : goal.returns-clause-parents
returns-clause-parents c = ap (list_all (names_parent (merged_ids kind.Stop c.args.sides.now))) c.new.ensures ∙ c.loop-row.invariant.within

use Rattle.std.proofs.Common.{◌≡◌, ◌<◌, ◌≤◌, ◌∙◌, Some, ap, arith, length, map, slice_get, subst, sym}
use Rattle.std.proofs.lemmas.List.{length-map}
use Rattle.gtfs_rows.specs.RowsInMemory.{agency_of}
use Rattle.gtfs_rows.specs.declared.parts.Parts.{Parts}
use Rattle.gtfs_merge.specs.EntryRows.{AreMergedRows, agency_from}
use Rattle.gtfs_merge.specs.MergedSides.{merged_parts, side_parts}
use Rattle.gtfs_merge.specs.declared.kind.Kind.TheVariants as kind
use Rattle.gtfs_merge.proofs.MergedLists.{agency-row, row-named, row-within, rows-all, rows-more}
use Rattle.gtfs_merge.proofs.Ordering.{own-row, row_at}
use Rattle.gtfs_merge.proofs.rows.agencies.merged_agencies.Goals as goal

pub agency_by_number-source-requires : goal.agency_by_number-source-requires
agency_by_number-source-requires c =
    let sides = c.args.sides.now in
    let row = row_at c.rows-rows.result.now c.loop-row.row-index in
    let within = row-within kind.Agency sides c.rows-rows.result.now (subst (AreMergedRows kind.Agency c.args.sides.now) (sym c.rows-rows.ensures) c.requires.rows) c.loop-row.row-index c.loop-row-test.true row (own-row c.rows-rows.result.now c.loop-row.row-index c.loop-row-test.true) in
    subst (λ (f : Parts). row.number < length f.agencies) (sym c.of.ensures) (omega (arith, within, length-map (side_parts row.side sides).agencies (λ a. a.agency_id)))

pub loop-row-preserved : goal.loop-row-preserved
loop-row-preserved c =
    let sides = c.args.sides.now in
    let rows = c.rows-rows.result.now in
    let index = c.loop-row.row-index in
    let row = row_at c.rows-rows.result.now c.loop-row.row-index in
    let at = subst (λ (f : Parts). slice_get f.agencies row.number ≡ Some c.agency_by_number-source.result.now) c.of.ensures c.agency_by_number-source.ensures in
    let named = row-named kind.Agency sides rows (subst (AreMergedRows kind.Agency c.args.sides.now) (sym c.rows-rows.ensures) c.requires.rows) index c.loop-row-test.true row (own-row c.rows-rows.result.now c.loop-row.row-index c.loop-row-test.true) in
    rows-more agency_of (agency_from sides) rows index c.loop-row.list.items _ c.in_ok-under.field-0 row c.loop-row-test.true c.loop-row.invariant c.in_ok-push.ensures.items (own-row c.rows-rows.result.now c.loop-row.row-index c.loop-row-test.true)
    (agency-row sides row.side row.number row.id.now c.agency_by_number-source.result.now c.in_ok-under.field-0 at named c.in_ok-under.ensures)

pub returns : goal.returns
returns c =
    let sides = c.args.sides.now in
    let past : length c.rows-rows.result.now ≤ c.loop-row.row-index = omega (arith, c.loop-row-test.false) in
    ap (map agency_of) c.new.ensures ∙ rows-all agency_of (agency_from sides) c.rows-rows.result.now c.loop-row.row-index c.loop-row.list.items (merged_parts sides).agencies past c.loop-row.invariant (subst (AreMergedRows kind.Agency c.args.sides.now) (sym c.rows-rows.ensures) c.requires.rows).rows

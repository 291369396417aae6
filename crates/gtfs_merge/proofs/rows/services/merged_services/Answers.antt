use Rattle.std.proofs.Common.{◌≡◌, ◌<◌, ◌≤◌, ◌∙◌, Some, ap, arith, length, map, option_map, slice_get, subst, sym}
use Rattle.std.proofs.lemmas.List.{length-map}
use Rattle.gtfs_rows.specs.RowsInMemory.{service_of}
use Rattle.gtfs_rows.specs.declared.parts.Parts.{Parts}
use Rattle.gtfs_merge.specs.EntryRows.{AreMergedRows, service_from}
use Rattle.gtfs_merge.specs.MergedSides.{merged_parts, side_parts}
use Rattle.gtfs_merge.specs.declared.kind.Kind.TheVariants as kind
use Rattle.gtfs_merge.proofs.MergedLists.{service-row, row-named, row-within, rows-all, rows-more}
use Rattle.gtfs_merge.proofs.Ordering.{own-row, row_at}
use Rattle.gtfs_merge.proofs.rows.services.merged_services.Goals as goal

pub service_by_number-source-requires : goal.service_by_number-source-requires
service_by_number-source-requires c =
    let sides = c.args.sides.now in
    let row = row_at c.rows-rows.result.now c.loop-row.row-index in
    let within = row-within kind.Service sides c.rows-rows.result.now (subst (AreMergedRows kind.Service c.args.sides.now) (sym c.rows-rows.ensures) c.requires.rows) c.loop-row.row-index c.loop-row-test.true row (own-row c.rows-rows.result.now c.loop-row.row-index c.loop-row-test.true) in
    subst (λ (f : Parts). row.number < length f.services) (sym c.of.ensures) (omega (arith, within, length-map (side_parts row.side sides).services (λ a. a.service_id)))

pub loop-row-preserved : goal.loop-row-preserved
loop-row-preserved c =
    let sides = c.args.sides.now in
    let rows = c.rows-rows.result.now in
    let index = c.loop-row.row-index in
    let row = row_at c.rows-rows.result.now c.loop-row.row-index in
    let at = subst (λ (f : Parts). option_map (λ s. s.service) (slice_get f.services row.number) ≡ Some c.service_by_number-source.result.now) c.of.ensures c.service_by_number-source.ensures in
    let named = row-named kind.Service sides rows (subst (AreMergedRows kind.Service c.args.sides.now) (sym c.rows-rows.ensures) c.requires.rows) index c.loop-row-test.true row (own-row c.rows-rows.result.now c.loop-row.row-index c.loop-row-test.true) in
    rows-more service_of (service_from sides) rows index c.loop-row.list.items _ c.in_ok-with_id.field-0 row c.loop-row-test.true c.loop-row.invariant c.in_ok-push.ensures.items (own-row c.rows-rows.result.now c.loop-row.row-index c.loop-row-test.true)
    (service-row sides row.side row.number row.id.now c.service_by_number-source.result.now c.in_ok-with_id.field-0 at named c.in_ok-with_id.ensures)

pub returns : goal.returns
returns c =
    let sides = c.args.sides.now in
    let past : length c.rows-rows.result.now ≤ c.loop-row.row-index = omega (arith, c.loop-row-test.false) in
    ap (map service_of) c.new.ensures ∙ rows-all service_of (service_from sides) c.rows-rows.result.now c.loop-row.row-index c.loop-row.list.items (merged_parts sides).services past c.loop-row.invariant (subst (AreMergedRows kind.Service c.args.sides.now) (sym c.rows-rows.ensures) c.requires.rows).rows

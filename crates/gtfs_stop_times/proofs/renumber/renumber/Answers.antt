use Rattle.std.proofs.Common.{◌∙◌, ap, arith, slice_set, sym}
use Rattle.std.proofs.lemmas.List.Edits.{map_over_more}
use Rattle.gtfs_stop_times.specs.RenumberedRows.{renumbered_row}
use Rattle.gtfs_stop_times.proofs.renumber.renumber.Goals as goal

pub loop-row-preserved : goal.loop-row-preserved
loop-row-preserved c =
    let f = renumbered_row c.args.stops.now c.args.headsigns.now in
    ap (slice_set c.loop-row.row-items c.loop-row.row-index) c.renumbered.ensures
    ∙ ap (λ x. slice_set c.loop-row.row-items c.loop-row.row-index (f x)) (sym c.row-item.is)
    ∙ map_over_more f c.deref_mut-row-items.result.now c.loop-row.row-items c.loop-row.row-index c.row-item.result (omega (arith, c.loop-row-test.true)) c.loop-row.invariant c.row-item.is

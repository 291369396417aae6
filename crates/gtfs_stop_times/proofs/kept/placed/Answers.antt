use Rattle.std.proofs.Common.{◌<◌, ◌∙◌, ℕ, Bool, arith, get_or, length, sym}
use Rattle.std.proofs.lemmas.Option.{get_or_from_slice_get}
use Rattle.gtfs_stop_times.specs.KeptLists.{no_note}
use Rattle.gtfs_stop_times.specs.RowNotes.{noted}
use Rattle.gtfs_stop_times.specs.KeptTimes.{is_placed}
use Rattle.gtfs_stop_times.proofs.RowNumberFacts.{passes-filter, stays-filter}
use Rattle.gtfs_stop_times.proofs.kept.placed.Goals as goal
use Rattle.gtfs_stop_times.proofs.kept.placed.Goals.{then-is_placed+in_ok-push, else-is_placed}

pub loop-at-preserved : goal.loop-at-preserved
loop-at-preserved c =
    let order = c.args.order.now in
    let l = c.loop-at in
    let P : ℕ → Bool = λ n. is_placed (noted (get_or c.args.notes.now n no_note)).times in
    let within : l.at < length order = omega (arith, c.loop-at-test.true, c.len-at-end.ensures) in
    let here = get_or_from_slice_get order l.at c.get-row.result 0 c.get-row.ensures in
    elim c.if-is_placed.branch [
      | then-is_placed+in_ok-push w ↦ w.rows-is ∙ w.in_ok-push.ensures.added ∙ passes-filter P order l.at c.get-row.result l.rows within here (sym c.is_placed.ensures ∙ w.if-is_placed.true) l.invariant
      | else-is_placed w ↦ w.rows-is ∙ stays-filter P order l.at c.get-row.result l.rows within here (sym c.is_placed.ensures ∙ w.if-is_placed.false) l.invariant
    ]

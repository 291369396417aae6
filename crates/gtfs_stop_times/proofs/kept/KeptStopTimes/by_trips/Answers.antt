use Rattle.std.proofs.Common.{◌∙◌, subst, sym}
use Rattle.std.specs.Prelude.{IsPermutation}
use Rattle.gtfs_stop_times.specs.KeptLists.{stop_times_at}
use Rattle.gtfs_stop_times.specs.KeptStretches.{AreRising}
use Rattle.gtfs_stop_times.proofs.KeptListFacts.{moved_listed, moved_rows}
use Rattle.gtfs_stop_times.proofs.kept.KeptStopTimes.by_trips.Goals as goal

pub invariant_of-result : goal.invariant_of-result
invariant_of-result c =
    let k = c.self.inside in
    moved_listed k.rows.items k.notes.items k.order c.self.invariant c.in_ok-order.order c.in_ok-order.ensures.moved

pub returns-clause-sorted : goal.returns-clause-sorted
returns-clause-sorted c = λ up.
    let by = rw (c.of.ensures.rows ∙ c.deref.ensures.value, c.of.ensures.notes ∙ c.deref-2.ensures.value) at c.in_ok-order.ensures in
    by.sorted (subst AreRising (sym c.self.view_is) up)

pub returns-clause-moved : goal.returns-clause-moved
returns-clause-moved c =
    let k = c.self.inside in
    subst (λ v. IsPermutation v (stop_times_at k.rows.items k.notes.items c.in_ok-order.order)) c.self.view_is (moved_rows k.rows.items k.notes.items k.order c.in_ok-order.order c.in_ok-order.ensures.moved)

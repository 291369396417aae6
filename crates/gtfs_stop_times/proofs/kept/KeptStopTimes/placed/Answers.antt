use Rattle.std.proofs.Common.{◌≡◌, ◌∙◌, ap, filter, get_or}
use Rattle.gtfs_stop_times.specs.KeptLists.{no_note, stop_times_at}
use Rattle.gtfs_stop_times.specs.RowNotes.{noted}
use Rattle.gtfs_stop_times.specs.KeptTimes.{is_placed}
use Rattle.gtfs_stop_times.proofs.KeptListFacts.{placed_listed, placed_rows}
use Rattle.gtfs_stop_times.proofs.kept.KeptStopTimes.placed.Goals as goal

pub invariant_of-result : goal.invariant_of-result
invariant_of-result c =
    let k = c.self.inside in
    let is : c.in_ok-order.order ≡ filter (λ n. is_placed (noted (get_or k.notes.items n no_note)).times) k.order =
    c.in_ok-order.ensures ∙ (λ i. filter (λ n. is_placed (noted (get_or (c.deref.ensures.value i) n no_note)).times) k.order) in
    rw is (placed_listed k.rows.items k.notes.items k.order c.self.invariant)

pub returns : goal.returns
returns c =
    let k = c.self.inside in
    let is : c.in_ok-order.order ≡ filter (λ n. is_placed (noted (get_or k.notes.items n no_note)).times) k.order =
    c.in_ok-order.ensures ∙ (λ i. filter (λ n. is_placed (noted (get_or (c.deref.ensures.value i) n no_note)).times) k.order) in
    ap (stop_times_at k.rows.items k.notes.items) is ∙ placed_rows k.rows.items k.notes.items k.order ∙ ap (filter (λ r. is_placed r.times)) c.self.view_is

use Rattle.std.proofs.Common.{rules, of_calls, ◌≡◌, ◌∙◌, List, Bool, true, false, not, sym}
use Rattle.std.specs.List.Sorted.{IsPartitionPoint}
use Rattle.std.proofs.lemmas.List.Sorted.{IsPartitionPoint-from_clause}
use Rattle.gtfs_runs.specs.declared.event.Event.{Event}
use Rattle.gtfs_runs.specs.EventOrder.{event_cmp, is_later}
use Rattle.gtfs_runs.proofs.Finding.{find-parted, parted-upward}
use Rattle.gtfs_runs.proofs.Orders.{later-upward}
use Rattle.gtfs_runs.proofs.list_lane.ListLaneLane.next.Goals as goal

pub returns-clause-next : goal.returns-clause-next
returns-clause-next c =
    let xs : List Event = c.args.self.now.events in
    let test : Event → Bool = is_later c.args.event.now in
    let index = c.partition_point-index.result in
    let parted : IsPartitionPoint (λ x. not (test x) ≡ true) (λ x. not (test x) ≡ false) xs index =
    IsPartitionPoint-from_clause (λ x. not (test x)) xs index (rw c.as_slice.ensures at c.partition_point-index.ensures.partitioned) (parted-upward event_cmp test (later-upward c.args.event.now) xs c.args.self.now.ascending) (λ a r f k. search (rules, of_calls)) in
    c.event.ensures ∙ sym (find-parted test xs index parted (rw c.as_slice.ensures at c.partition_point-index.ensures.bound))

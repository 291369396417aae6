use Rattle.std.proofs.Common.{◌≡◌, ◌≤ℤ◌, ◌+ℤ◌, pos, true}
use Rattle.std.specs.Prelude.{All, sum_by}
use Rattle.std.specs.BinaryHeap.{IsHeap, heap_items}
use Rattle.gtfs_days.specs.Service.{last_service_day}
use Rattle.gtfs_advice.specs.WaitingServices.{runs_on, wait_cmp}
use Rattle.gtfs_advice.proofs.Waits.{IsWalked, days_left}
use Rattle.gtfs_advice.proofs.waiting_services.walk.Given as goal

abbrev pub invariant-loop-next : goal.invariant-loop-next
invariant-loop-next l = record {
  each : All (λ w. runs_on l.services w.0.1 w.0.0 ≡ true) (heap_items l.waiting);
  first : IsHeap wait_cmp (heap_items l.waiting);
  until : l.days.until ≤ℤ (last_service_day +ℤ pos 1);
  known : IsWalked l.services (heap_items l.initial.waiting) l.initial.days (heap_items l.waiting) l.days;
}

abbrev pub decreases-loop-next : goal.decreases-loop-next
decreases-loop-next l = sum_by days_left (heap_items l.waiting)

use Rattle.std.proofs.Common.{◌≡◌, Bool, ℤ, true}
use Rattle.std.specs.Prelude.{All}
use Rattle.std.specs.BinaryHeap.{IsHeap, heap_items}
use Rattle.gtfs_advice.specs.WaitingServices.{IsServedBy, runs_on, wait_cmp}
use Rattle.gtfs_advice.proofs.Waits.{AreWaitingTo}
use Rattle.gtfs_advice.proofs.waiting_services.first_days.Given as goal

abbrev pub invariant-loop-number : goal.invariant-loop-number
invariant-loop-number l = record {
  each : All (λ w. runs_on l.services w.0.1 w.0.0 ≡ true) (heap_items l.waiting);
  first : IsHeap wait_cmp (heap_items l.waiting);
  known : (served : ℤ → Bool) → IsServedBy l.services l.used served → AreWaitingTo l.services l.used served l.number (heap_items l.waiting);
}

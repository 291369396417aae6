use Rattle.std.specs.BinaryHeap.{heap_items}
use Rattle.gtfs_advice.specs.WaitingServices.{Wait}
use Rattle.gtfs_advice.proofs.Waits.{each_runs, earliest, is_part, is_smaller, quiet, still_waiting}
use Rattle.gtfs_advice.proofs.waiting_services.walk.Goals as goal

pub loop-next-smaller : goal.loop-next-smaller
loop-next-smaller c =
    is_smaller c.args.services.now c.in-Some.next (heap_items c.loop-next.waiting) (heap_items c.pop.new.self) (heap_items c.wait.new.waiting) c.in-Some.ensures.permutation
    c.loop-next.invariant.each c.index-services-number.result c.follow.new.self.until c.in_ok-wait.ensures.joins c.in_ok-follow.ensures.past

pub loop-next-preserved : goal.loop-next-preserved
loop-next-preserved c =
    let services = c.args.services.now in
    let x : Wait = c.in-Some.next in
    let waiting = heap_items c.loop-next.waiting in
    let rest = heap_items c.pop.new.self in
    let new = heap_items c.wait.new.waiting in
    let left = c.in-Some.ensures.permutation in
    let each = c.loop-next.invariant.each in
    let row = c.index-services-number.result in
    let from = c.follow.new.self.until in
    let joins = c.in_ok-wait.ensures.joins in
    let first = c.in-Some.ensures.heap_order c.loop-next.invariant.first in
    record {
      each = each_runs services x waiting rest new left each row from joins;
      first = c.in_ok-wait.ensures.first first.0;
      until = c.in_ok-follow.ensures.within;
      known = λ served on_days waited was_known.
          let so_far = c.loop-next.invariant.known served on_days waited was_known in
          let until = c.loop-next.days.until in (
            still_waiting services x waiting rest new left each row from joins served until so_far.0 c.in_ok-follow.ensures.onward,
            c.in_ok-follow.ensures.known served on_days (is_part services x waiting rest new left each row from joins served until so_far.0)
                (quiet services served until x waiting so_far.0 (earliest x waiting first.1)) so_far.1,
          );
    }

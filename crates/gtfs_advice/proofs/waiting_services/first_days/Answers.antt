use Rattle.std.specs.BinaryHeap.{heap_items}
use Rattle.gtfs_advice.proofs.Waits.{each_runs_first, unused_waits, used_waits}
use Rattle.gtfs_advice.proofs.waiting_services.first_days.Goals as goal
use Rattle.gtfs_advice.proofs.waiting_services.first_days.Goals.{then-used-number+in_ok-wait, else-used-number}

pub loop-number-preserved : goal.loop-number-preserved
loop-number-preserved c =
    let services = c.args.services.now in
    let used = c.args.used.now in
    let number = c.loop-number.number in
    let old = heap_items c.loop-number.waiting in
    elim c.if-used-number.branch [
      | then-used-number+in_ok-wait w ↦
          let new = heap_items w.wait.new.waiting in
          let row = c.index-services-number.result in
          let joins = w.in_ok-wait.ensures.joins in
          rw w.waiting-is (record {
            each = each_runs_first services number row c.loop-number-test.true c.index-services-number.is c.from_number-first.result c.from_number-first.ensures old new joins c.loop-number.invariant.each;
            first = w.in_ok-wait.ensures.first c.loop-number.invariant.first;
            known = λ served by. used_waits services number row c.loop-number-test.true c.index-services-number.is c.from_number-first.result c.from_number-first.ensures old new joins used served w.if-used-number.true by (c.loop-number.invariant.known served by);
          })
      | else-used-number w ↦ rw w.waiting-is (record {
        each = c.loop-number.invariant.each;
        first = c.loop-number.invariant.first;
        known = λ served by. unused_waits services used served number old w.if-used-number.false (c.loop-number.invariant.known served by);
      })
    ]

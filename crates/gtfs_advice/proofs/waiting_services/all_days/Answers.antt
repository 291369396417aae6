use Rattle.std.specs.BinaryHeap.{heap_items}
use Rattle.gtfs_advice.proofs.Waits.{walked_all}
use Rattle.gtfs_advice.proofs.waiting_services.all_days.Goals as goal

pub returns : goal.returns
returns c =
    walked_all c.args.services.now c.args.used.now c.none-days.result (heap_items c.in_ok-waiting.waiting) c.walk.new.days c.walk.result c.and.result c.and.ensures
    c.none-days.ensures.until c.none-days.ensures.known c.in_ok-waiting.ensures.all c.walk.ensures

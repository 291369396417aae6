use Rattle.std.proofs.Common.{heap_items}
use Rattle.gtfs_board.proofs.Queues.{heaped_in}
use Rattle.gtfs_board.proofs.upcoming.queue.Queue.add_to_heap.Goals as goal

pub returns-clause-counts : goal.returns-clause-counts
returns-clause-counts c =
    rw (← c.self.view_is) (heaped_in c.self.inside.sorted.items (heap_items c.self.inside.heap) c.args.fresh.items (heap_items c.from-fresh.result) (heap_items c.append.new.self)
    c.from-fresh.ensures.1 c.in_ok-append.ensures.permutation)

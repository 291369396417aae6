use Rattle.std.proofs.Common.{heap_items}
use Rattle.gtfs_board.proofs.Queues.{sorted_in}
use Rattle.gtfs_board.proofs.upcoming.queue.Queue.sort_in.Goals as goal

pub returns-clause-counts : goal.returns-clause-counts
returns-clause-counts c =
    rw (← c.self.view_is) (sorted_in c.self.inside.sorted.items (heap_items c.self.inside.heap) c.args.fresh.items c.append.new.self.items c.sort_unstable.new.self.items
    c.in_ok-append.ensures.items c.sort_unstable.ensures.permutation)

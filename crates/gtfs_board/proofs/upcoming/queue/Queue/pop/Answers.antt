use Rattle.std.proofs.Common.{◌++◌, arith, heap_items}
use Rattle.gtfs_board.proofs.Queues.{first_left, last_got, last_left, top_got, top_left}
use Rattle.gtfs_board.proofs.upcoming.queue.Queue.pop.Goals as goal

pub returns-then-is_top_first-clause-counts : goal.returns-then-is_top_first-clause-counts
returns-then-is_top_first-clause-counts c =
    rw (← c.self.view_is) (top_left c.self.inside.sorted.items (heap_items c.self.inside.heap) (heap_items c.pop.new.self) c.self.inside.heap.data.len c.pop.new.self.data.len c.pop.result c.pop.ensures.permutation c.pop.ensures.unchanged)

pub returns-then-is_top_first-clause-first : goal.returns-then-is_top_first-clause-first
returns-then-is_top_first-clause-first c =
    let list = c.self.inside.sorted.items in
    let heap = heap_items c.self.inside.heap in
    let rest = heap_items c.pop.new.self in
    let counts = top_left list heap rest c.self.inside.heap.data.len c.pop.new.self.data.len c.pop.result c.pop.ensures.permutation c.pop.ensures.unchanged in
    let got = top_got heap c.self.inside.heap.data.len c.pop.result (omega (arith, c.self.inside.heap.data.ok.0)) c.pop.ensures.variant c.pop.ensures.top in
    let head = rw (c.as_slice.ensures.value, got) at (c.is_top_first.ensures.top c.if-is_top_first.true) in
    first_left c.pop.result (list ++ rest) (list ++ heap) counts head

pub returns-else-is_top_first-clause-counts : goal.returns-else-is_top_first-clause-counts
returns-else-is_top_first-clause-counts c =
    rw (← c.self.view_is) (last_left c.self.inside.sorted.items (heap_items c.self.inside.heap) c.pop-else-is_top_first.new.self.items c.pop-else-is_top_first.result c.pop-else-is_top_first.ensures.items)

pub returns-else-is_top_first-clause-first : goal.returns-else-is_top_first-clause-first
returns-else-is_top_first-clause-first c =
    let list = c.self.inside.sorted.items in
    let heap = heap_items c.self.inside.heap in
    let rest = c.pop-else-is_top_first.new.self.items in
    let o = c.pop-else-is_top_first.result in
    let is = c.pop-else-is_top_first.ensures.items in
    let got = last_got list rest c.self.inside.sorted.len c.pop-else-is_top_first.new.self.len o (omega (arith, c.self.inside.sorted.ok.0)) is c.pop-else-is_top_first.ensures.cases in
    let head = rw c.as_slice.ensures.value at (c.is_top_first.ensures.last c.if-is_top_first.false) in
    first_left o (rest ++ heap) (list ++ heap) (last_left list heap rest o is) (rw got at head)

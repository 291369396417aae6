use Rattle.std.proofs.Common.{◌∙◌, ◌++◌, Some, sym, arith, heap_items}
use Rattle.std.specs.Option.{option_to_list}
use Rattle.gtfs_board.proofs.Queues.{before_first, first_exchanged, last_got, last_replaced, one_more, replaced_beside, sorted_front}
use Rattle.gtfs_board.proofs.upcoming.queue.Queue.exchange.Goals as goal

pub returns-then-comes_before-clause-counts : goal.returns-then-comes_before-clause-counts
returns-then-comes_before-clause-counts c = rw c.in-Some.is (one_more c.args.self.now c.in-Some.head)

pub returns-then-comes_before-clause-first : goal.returns-then-comes_before-clause-first
returns-then-comes_before-clause-first c =
    before_first c.in-Some-first.first c.in-Some.head c.args.self.now c.in-Some-first.ensures (sym c.comes_before.ensures ∙ c.if-comes_before.true)

pub returns-then-is_top_first-clause-counts : goal.returns-then-is_top_first-clause-counts
returns-then-is_top_first-clause-counts c =
    rw (← c.self.view_is, c.in-Some.is)
    (replaced_beside c.self.inside.sorted.items (heap_items c.self.inside.heap) (heap_items c.replace_top.new.heap) c.replace_top.result c.in-Some.head c.replace_top.ensures.counts)

pub returns-then-is_top_first-clause-first : goal.returns-then-is_top_first-clause-first
returns-then-is_top_first-clause-first c =
    let list = c.self.inside.sorted.items in
    let heap = heap_items c.self.inside.heap in
    let new = heap_items c.replace_top.new.heap in
    let counts = replaced_beside list heap new c.replace_top.result c.in-Some.head c.replace_top.ensures.counts in
    let least = rw (c.as_slice.ensures.value, c.replace_top.ensures.top) at (c.is_top_first.ensures.top c.if-is_top_first.true) in
    first_exchanged (Some c.replace_top.result) c.in-Some-first.first c.in-Some.head (list ++ new) (list ++ heap) counts least (rw (← c.self.view_is) at c.in-Some-first.ensures.0)
    (sym c.comes_before.ensures ∙ c.if-comes_before.false)

pub invariant_of-self-2 : goal.invariant_of-self-2
invariant_of-self-2 c = record {
  sorted = sorted_front c.pop-2.new.self.items (option_to_list c.pop-2.result) c.self.inside.sorted.items c.pop-2.ensures.items c.self.invariant.sorted;
  ordered = c.in_ok-push.ensures.heap_order c.self.invariant.ordered;
}

pub returns-clause-counts : goal.returns-clause-counts
returns-clause-counts c =
    rw (← c.self.view_is, c.in-Some.is)
    (last_replaced c.self.inside.sorted.items c.pop-2.new.self.items (heap_items c.self.inside.heap) (heap_items c.push.new.self) c.pop-2.result c.in-Some.head
    c.pop-2.ensures.items c.in_ok-push.ensures.permutation)

pub returns-clause-first : goal.returns-clause-first
returns-clause-first c =
    let list = c.self.inside.sorted.items in
    let heap = heap_items c.self.inside.heap in
    let rest = c.pop-2.new.self.items in
    let new = heap_items c.push.new.self in
    let is = c.pop-2.ensures.items in
    let counts = last_replaced list rest heap new c.pop-2.result c.in-Some.head is c.in_ok-push.ensures.permutation in
    let got = last_got list rest c.self.inside.sorted.len c.pop-2.new.self.len c.pop-2.result (omega (arith, c.self.inside.sorted.ok.0)) is c.pop-2.ensures.cases in
    let least = rw c.as_slice.ensures.value at (c.is_top_first.ensures.last c.if-is_top_first.false) in
    first_exchanged c.pop-2.result c.in-Some-first.first c.in-Some.head (rest ++ new) (list ++ heap) counts (rw got at least) (rw (← c.self.view_is) at c.in-Some-first.ensures.0)
    (sym c.comes_before.ensures ∙ c.if-comes_before.false)

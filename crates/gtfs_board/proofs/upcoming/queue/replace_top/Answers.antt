use Rattle.std.proofs.Common.{rules, heap_items}
use Rattle.std.proofs.lemmas.Option.{MatchOption-at_some}
use Rattle.gtfs_board.proofs.Queues.{top_replaced}
use Rattle.gtfs_board.proofs.upcoming.queue.replace_top.Goals as goal

pub returns-clause-counts : goal.returns-clause-counts
returns-clause-counts c =
    let top = c.unwrap-top.result in
    let from = MatchOption-at_some _ _ top c.unwrap-top.ensures c.peek_mut.ensures.permutation in
    let back = c.drop-top.ensures.permutation (search rules) in
    let counts = top_replaced (heap_items c.args.heap.now) top.heap.now.data.items _ top.top c.args.head from back in
    λ x. let here = counts x in let first = c.deref-first.ensures in search rules

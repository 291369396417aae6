use Rattle.std.proofs.Common.{◌∙◌}
use Rattle.std.specs.Ordering.{ordering_then}
use Rattle.gtfs_board.proofs.KeyOrder.{chained}
use Rattle.gtfs_board.proofs.key.KeyOrd.cmp.Goals as goal

pub returns : goal.returns
returns c =
    chained c.cmp.result c.cmp-2.result c.cmp-3.result c.cmp-4.result c.cmp-5.result _ _ _ c.then-4.result c.then.ensures c.then-2.ensures c.then-3.ensures c.then-4.ensures
    ∙ (λ i. ordering_then (c.cmp.ensures i) (ordering_then (c.cmp-2.ensures i) (ordering_then (c.cmp-3.ensures i) (ordering_then (c.cmp-4.ensures i) (c.cmp-5.ensures i)))))

use Rattle.std.proofs.Common.{take}
use Rattle.gtfs_rows.specs.RowsInMemory.{content_of_parts}
use Rattle.gtfs_advice.specs.Advice.{Tells, advice_on, stop_rules}
use Rattle.gtfs_advice.proofs.stops.tell_each.Given as goal

-- the stops so far were told
abbrev pub invariant-loop-number : goal.invariant-loop-number
invariant-loop-number l =
    let c = content_of_parts l.parts in
    Tells l.parts (advice_on (λ s. s.stop_id) (stop_rules c) (take l.number c.stops)) l.fn.told.items l.told.items

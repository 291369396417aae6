use Rattle.std.proofs.Common.{take}
use Rattle.gtfs_rows.specs.RowsInMemory.{content_of_parts}
use Rattle.gtfs_advice.specs.Advice.{Tells, advice_on, agency_rules}
use Rattle.gtfs_advice.proofs.agencies.tell_each.Given as goal

-- the agencies so far were told
abbrev pub invariant-loop-number : goal.invariant-loop-number
invariant-loop-number l =
    let c = content_of_parts l.parts in
    Tells l.parts (advice_on (λ a. a.agency_id) (agency_rules c) (take l.number c.agencies)) l.fn.told.items l.told.items

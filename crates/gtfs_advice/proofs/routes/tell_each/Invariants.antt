use Rattle.std.proofs.Common.{take}
use Rattle.gtfs_rows.specs.RowsInMemory.{content_of_parts}
use Rattle.gtfs_advice.specs.Advice.{Tells, advice_on, route_rules}
use Rattle.gtfs_advice.proofs.routes.tell_each.Given as goal

-- the routes so far were told
abbrev pub invariant-loop-number : goal.invariant-loop-number
invariant-loop-number l =
    let c = content_of_parts l.parts in
    Tells l.parts (advice_on (λ r. r.route_id) (route_rules c) (take l.number c.routes)) l.fn.told.items l.told.items

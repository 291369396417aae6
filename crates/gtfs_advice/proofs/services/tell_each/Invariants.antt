use Rattle.std.proofs.Common.{[], ◌∷◌, take}
use Rattle.std.specs.Prelude.{◌&&◌}
use Rattle.gtfs_rows.specs.RowsInMemory.{content_of_parts}
use Rattle.gtfs_advice.specs.Advice.{Tells, advice_on}
use Rattle.gtfs_advice.specs.Services.{has_no_trip}
use Rattle.gtfs_advice.specs.UsedServices.{stands_under}
use Rattle.gtfs_advice.proofs.services.tell_each.Given as goal

-- the services so far were told
abbrev pub invariant-loop-number : goal.invariant-loop-number
invariant-loop-number l =
    let c = content_of_parts l.parts in
    Tells l.parts (advice_on (λ s. s.service_id) ((l.code, λ s. stands_under l.in_calendar s && has_no_trip c s) ∷ []) (take l.number c.services)) l.fn.told.items l.told.items

use Rattle.std.proofs.Common.{take}
use Rattle.gtfs_rows.specs.RowsInMemory.{content_of_parts}
use Rattle.gtfs_advice.specs.Advice.{Tells, advice_on, stop_time_rules}
use Rattle.gtfs_advice.proofs.stop_times.tell_each.Given as goal

-- the trips so far were told
abbrev pub invariant-loop-number : goal.invariant-loop-number
invariant-loop-number l = Tells l.feed (advice_on (λ t. t.trip_id) (stop_time_rules (content_of_parts l.feed)) (take l.number (content_of_parts l.feed).trips)) l.fn.told.items l.told.items

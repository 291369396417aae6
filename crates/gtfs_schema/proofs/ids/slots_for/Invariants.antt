use Rattle.std.specs.List.{All}
use Rattle.gtfs_schema.specs.steps.Ids.{Answers, FirstRows, IsIdIndex}
use Rattle.gtfs_schema.proofs.ids.slots_for.Given as goal

-- what the slots say so far is true
abbrev pub invariant-loop-number : goal.invariant-loop-number
invariant-loop-number l = (i : FirstRows) → IsIdIndex i l.rows → All (Answers i) l.slots.items

use Rattle.std.proofs.Common.{◌≡◌, ◌++◌, take}
use Rattle.gtfs_advice.specs.Advice.{said}
use Rattle.gtfs_advice.proofs.advice.tell.Given as goal

-- the answers so far were told
abbrev pub invariant-loop-code : goal.invariant-loop-code
invariant-loop-code l = l.told.items ≡ l.initial.told.items ++ said l.subject (take l.code-index l.answers)

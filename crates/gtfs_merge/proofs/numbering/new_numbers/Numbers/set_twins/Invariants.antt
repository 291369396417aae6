use Rattle.gtfs_merge.specs.Twins.{of_kind}
use Rattle.gtfs_merge.proofs.NumberTables.{AreJoined}
use Rattle.gtfs_merge.proofs.numbering.new_numbers.Numbers.set_twins.Given as goal

-- the joined rows so far have their numbers
abbrev pub invariant-loop-number : goal.invariant-loop-number
invariant-loop-number l = AreJoined (of_kind l.twins l.kind) l.fn.self l.self l.number l.number-end

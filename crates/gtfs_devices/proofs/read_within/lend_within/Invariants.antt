use Rattle.gtfs_devices.proofs.LendLemmas.{LendsSome}
use Rattle.gtfs_devices.proofs.read_within.lend_within.Given as goal

-- the bytes that the file gave are those that the reader has taken, and no more than the limit
abbrev pub invariant-loop : goal.invariant-loop
invariant-loop g l = LendsSome l.limit (g.F.Read.remaining l.fn.file) (g.F.Read.remaining l.file) (g.R.FileReader.has_taken l.reader) l.taken

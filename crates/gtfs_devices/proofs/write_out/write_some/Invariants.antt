use Rattle.std.specs.Io.KnownBytes.{Keeps}
use Rattle.gtfs_devices.proofs.write_out.write_some.Given as goal

-- an interrupted write takes nothing
abbrev pub invariant-loop : goal.invariant-loop
invariant-loop g l = Keeps (g.W.Write.contents l.fn.writer) (g.W.Write.contents l.writer)

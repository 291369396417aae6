use Rattle.std.proofs.Common.{◌≤◌, vec_len}
use Rattle.gtfs_devices.proofs.system.push_listed.Given as goal

abbrev pub invariant-loop-entry : goal.invariant-loop-entry
invariant-loop-entry g l = vec_len l.names ≤ l.entries

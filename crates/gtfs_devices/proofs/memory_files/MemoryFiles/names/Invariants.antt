use Rattle.std.proofs.Common.{◌≡◌, map, string_bytes}
use Rattle.gtfs_devices.proofs.memory_files.MemoryFiles.names.Given as goal

-- the names so far are clones of the keys so far
abbrev pub invariant-loop-name : goal.invariant-loop-name
invariant-loop-name l = l.names.items ≡ map (λ name. string_bytes name.now) l.yielded

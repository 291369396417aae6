use Rattle.std.proofs.Common.{◌≡◌, ◌++◌, ℕ, List, length}
use Rattle.gtfs_table.specs.ReadingProgress.{table_after}
use Rattle.gtfs_table.proofs.table_reader.TableReaderFileReader.take.Given as goal

abbrev pub invariant-loop-behind : goal.invariant-loop-behind
invariant-loop-behind l = (rest : List ℕ) → table_after l.fn.self (l.fn.piece ++ rest) ≡ table_after l.self (l.behind ++ rest)

abbrev pub decreases-loop-behind : goal.decreases-loop-behind
decreases-loop-behind l = length l.behind

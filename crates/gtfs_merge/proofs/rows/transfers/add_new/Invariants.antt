use Rattle.std.proofs.Common.{◌++◌, List, map, take}
use Rattle.gtfs_rows.specs.declared.transfer.Transfer.{Transfer as TransferOf}
use Rattle.gtfs_merge.specs.Transfers.{AreEntriesOf, transfer_on}
use Rattle.gtfs_merge.proofs.rows.transfers.add_new.Given as goal

-- the transfers so far
abbrev pub invariant-loop-own : goal.invariant-loop-own
invariant-loop-own l = (xs : List TransferOf) → AreEntriesOf xs l.initial.by_key.entries → AreEntriesOf (xs ++ map (transfer_on l.kinds l.side) (take l.own-index l.transfers)) l.by_key.entries

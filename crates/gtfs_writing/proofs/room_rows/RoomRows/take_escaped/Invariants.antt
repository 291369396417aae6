use Rattle.std.proofs.Common.{◌≡◌, drop, length}
use Rattle.csv.specs.Writing.{default_writer, escaped}
use Rattle.gtfs_writing.specs.TakenRecords.{room_after}
use Rattle.gtfs_writing.proofs.room_rows.RoomRows.take_escaped.Given as goal

-- what the bytes that are left leave is what all leave
abbrev pub invariant-loop-byte : goal.invariant-loop-byte
invariant-loop-byte l =
    room_after l.self (length (escaped default_writer (drop l.byte-index l.field))) ≡ room_after l.fn.self (length (escaped default_writer l.fn.field))

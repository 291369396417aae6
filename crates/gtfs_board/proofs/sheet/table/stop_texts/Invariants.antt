use Rattle.std.proofs.Common.{◌≡◌, map, take}
use Rattle.gtfs_rows.specs.RowsInMemory.{stop_ids, text_of_number}
use Rattle.gtfs_board.proofs.sheet.table.stop_texts.Given as goal

-- the ids so far
abbrev pub invariant-loop-stop : goal.invariant-loop-stop
invariant-loop-stop l = map (λ id. id.now) l.ids.items ≡ map (λ s. text_of_number (stop_ids l.feed) s.0) (take l.stop-index l.stops)

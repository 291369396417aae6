use Rattle.std.proofs.Common.{◌≡◌, None, map, get_or}
use Rattle.std.specs.List.{range_with_len}
use Rattle.gtfs_board.proofs.sheet.turning.turned.Given as goal

-- the lines of the places so far
abbrev pub invariant-loop-place : goal.invariant-loop-place
invariant-loop-place l = l.table.items ≡ map (λ i. map (λ line. get_or line.items i None) l.lines) (range_with_len 0 l.place)

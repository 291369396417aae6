use Rattle.std.proofs.Common.{◌≡◌, None, map, get_or, take}
use Rattle.gtfs_board.proofs.sheet.turning.times_across.Given as goal

-- what stands there in the lines so far
abbrev pub invariant-loop-line : goal.invariant-loop-line
invariant-loop-line l = l.times.items ≡ map (λ line. get_or line.items l.place None) (take l.line-index l.lines)

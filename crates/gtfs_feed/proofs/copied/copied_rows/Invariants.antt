use Rattle.std.proofs.Common.{◌≡◌, take}
use Rattle.gtfs_feed.proofs.copied.copied_rows.Given as goal

-- the rows so far
abbrev pub invariant-loop-row : goal.invariant-loop-row
invariant-loop-row g l = l.list.items ≡ take l.row-index l.rows

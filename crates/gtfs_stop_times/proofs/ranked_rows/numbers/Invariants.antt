use Rattle.std.proofs.Common.{◌≡◌, map, take}
use Rattle.gtfs_stop_times.proofs.ranked_rows.numbers.Given as goal

abbrev pub invariant-loop-ranked : goal.invariant-loop-ranked
invariant-loop-ranked l = l.rows.items ≡ map (λ p. p.row) (take l.ranked-index l.ranked_rows)

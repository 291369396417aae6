use Rattle.std.proofs.Common.{◌≤◌, ◌-◌, length}
use Rattle.gtfs_times.specs.Spans.{HaveNone}
use Rattle.gtfs_times.proofs.span.next_timed.Given as goal

-- none of those so far has a time
abbrev pub invariant-loop-next : goal.invariant-loop-next
invariant-loop-next l = record {
  from : l.from ≤ l.next;
  upto : l.next ≤ length l.rows;
  none : HaveNone l.rows l.from l.next;
}

abbrev pub decreases-loop-next : goal.decreases-loop-next
decreases-loop-next l = length l.rows - l.next

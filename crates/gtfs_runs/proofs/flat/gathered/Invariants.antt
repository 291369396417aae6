use Rattle.std.proofs.Common.{◌≡◌, ◌&&◌, ℕ, cond, nat_lt}
use Rattle.gtfs_times.specs.TimedRows.{timed_parts}
use Rattle.gtfs_runs.specs.Tallies.{tally}
use Rattle.gtfs_runs.specs.FlatEvents.{is_event_of, is_served}
use Rattle.gtfs_runs.specs.declared.event.Event.{Event}
use Rattle.gtfs_runs.proofs.flat.gathered.Given as goal

-- those of the trips so far
abbrev pub invariant-loop-number : goal.invariant-loop-number
invariant-loop-number l = (service : ℕ) (e : Event) → tally (is_served service e) l.events.items ≡ cond (nat_lt e.trip.0 l.number && is_event_of (timed_parts l.times l.feed) l.fn.stop.0 service e) 1 0

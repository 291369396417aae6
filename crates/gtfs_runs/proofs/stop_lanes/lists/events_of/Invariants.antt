use Rattle.std.proofs.Common.{◌≡◌, map, take}
use Rattle.gtfs_runs.specs.steps.Courses.{event_of}
use Rattle.gtfs_runs.proofs.stop_lanes.lists.events_of.Given as goal

-- the events so far
abbrev pub invariant-loop-stopping : goal.invariant-loop-stopping
invariant-loop-stopping l = l.events.items ≡ map event_of (take l.stopping-index l.listed)

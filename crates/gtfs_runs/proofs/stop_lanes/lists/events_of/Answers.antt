use Rattle.std.proofs.Common.{get_or}
use Rattle.std.proofs.lemmas.List.{get_or_default}
use Rattle.gtfs_runs.specs.steps.Courses.{event_of}
use Rattle.gtfs_runs.proofs.Chunks.{no_event}
use Rattle.gtfs_runs.proofs.Pushes.{mapped-all, pushed-more}
use Rattle.gtfs_runs.proofs.stop_lanes.lists.events_of.Goals as goal

pub loop-stopping-preserved : goal.loop-stopping-preserved
loop-stopping-preserved c =
    let xs = c.args.listed.now in
    let n = c.loop-stopping.stopping-index in
    let x = get_or xs n no_event in
    pushed-more event_of xs n x _ _ _ c.loop-stopping-test.true (get_or_default xs n no_event x c.loop-stopping-test.true)
    c.loop-stopping.invariant c.in_ok-push.ensures.items c.event.ensures

pub returns : goal.returns
returns c =
    mapped-all event_of c.args.listed.now c.loop-stopping.stopping-index _ c.loop-stopping-test.false c.loop-stopping.invariant

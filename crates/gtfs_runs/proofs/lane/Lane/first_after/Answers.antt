use Rattle.std.proofs.Common.{◌∙◌}
use Rattle.gtfs_runs.specs.EventOrder.{IsOfTrips, is_above_moment, is_above_seek}
use Rattle.gtfs_runs.proofs.SeekOrder.{found-alike}
use Rattle.gtfs_runs.proofs.lane.Lane.first_after.Goals as goal

pub returns-clause-first : goal.returns-clause-first
returns-clause-first g c = λ of.
    c.first_above.ensures.first
    ∙ found-alike (is_above_moment c.moment.result) (is_above_seek c.args.feed.now c.args.seek.now) (IsOfTrips c.args.feed.now) c.moment.ensures _ of

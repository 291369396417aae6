use Rattle.gtfs_days.specs.Service.{is_active}
use Rattle.gtfs_advice.proofs.Seasons.{goes_further}
use Rattle.gtfs_advice.proofs.service_seasons.day_after_season.Goals as goal

pub loop-next-preserved : goal.loop-next-preserved
loop-next-preserved c = goes_further (is_active c.args.service.now) c.args.from c.loop-next.last c.in-Some.next c.loop-next.invariant c.in-Some.ensures

use Rattle.gtfs_cli.proofs.Moments.{origins-small}
use Rattle.gtfs_cli.proofs.commands.options.moments.GivenMoment.instant.Goals as goal

pub returns-in-ServiceDay-clause-short : goal.returns-in-ServiceDay-clause-short
returns-in-ServiceDay-clause-short c =
    origins-small c.in-ServiceDay.day c.origin.result (rw c.in-ServiceDay.is at c.requires) c.origin.ensures.near

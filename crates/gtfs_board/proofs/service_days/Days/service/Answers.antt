use Rattle.std.proofs.Common.{◌<◌, ◌∙◌, length, ap, subst, sym}
use Rattle.gtfs_runs.specs.StopLanes.{LaneValue}
use Rattle.gtfs_board.specs.LaneDays.{no_lane}
use Rattle.gtfs_board.proofs.service_days.Days.service.Goals as goal

pub service_by_number-requires : goal.service_by_number-requires
service_by_number-requires c =
    subst (λ n. n < length c.args.self.now.feed.now.services) (sym (c.service.ensures ∙ ap (λ (l : LaneValue). l.service) c.lane.ensures)) (c.args.self.now.served c.args.lane no_lane c.requires)

use Rattle.std.proofs.Common.{pos, ◌+ℤ◌, ◌-ℤ◌, unsigned_abs}
use Rattle.gtfs_days.specs.Service.{is_active, last_service_day}
use Rattle.gtfs_advice.specs.ServiceSeasons.{GoesOn}
use Rattle.gtfs_advice.proofs.service_seasons.day_after_season.Given as goal

abbrev pub invariant-loop-next : goal.invariant-loop-next
invariant-loop-next l = GoesOn (is_active l.service) l.fn.from (l.last +ℤ pos 1)

abbrev pub decreases-loop-next : goal.decreases-loop-next
decreases-loop-next l = unsigned_abs (last_service_day -ℤ l.last)

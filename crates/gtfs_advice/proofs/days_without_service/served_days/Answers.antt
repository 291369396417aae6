use Rattle.gtfs_advice.proofs.ToldDays.{known_days}
use Rattle.gtfs_advice.proofs.days_without_service.served_days.Goals as goal

pub returns : goal.returns
returns c =
    known_days c.args.parts.now c.requires c.in_ok-used.used.items c.in_ok-used.ensures c.as_slice.result.now c.deref.result.now c.as_slice.ensures c.deref.ensures.value c.all_days.result c.all_days.ensures

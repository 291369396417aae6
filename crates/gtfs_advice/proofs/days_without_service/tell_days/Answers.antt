use Rattle.std.proofs.Common.{subst}
use Rattle.gtfs_rows.specs.RowsInMemory.{content_of_parts}
use Rattle.gtfs_rows.specs.declared.parts.Parts.{Parts}
use Rattle.gtfs_advice.specs.ServedDays.{AreAllKnown}
use Rattle.gtfs_advice.specs.Services.{is_day_served}
use Rattle.gtfs_advice.proofs.ToldDays.{told_days}
use Rattle.gtfs_advice.proofs.days_without_service.tell_days.Goals as goal

pub returns : goal.returns
returns c =
    let F : Parts → Type 0 = λ p. AreAllKnown (is_day_served (content_of_parts p)) c.in_ok-days.days in
    let all = subst F c.parts.ensures.value c.in_ok-days.ensures in
    told_days c.args.feed.now c.in_ok-days.days all c.args.day c.args.told.now.items c.tell_gaps.new.told.items c.tell_end.new.told.items c.tell_end.result c.tell_end.ensures.low c.in_ok-tell_gaps.ensures c.tell_end.ensures.told

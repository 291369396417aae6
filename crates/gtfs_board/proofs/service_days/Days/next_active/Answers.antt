use Rattle.std.proofs.Common.{rules, ◌≡◌, ◌∙◌, w32, SFits, subst, ap}
use Rattle.std.specs.Prelude.{◌<ℤ◌}
use Rattle.std.specs.Int.{int_max}
use Rattle.std.proofs.lemmas.Int.{to_z-of_z}
use Rattle.gtfs_days.specs.Service.{first_service_day}
use Rattle.gtfs_board.specs.LaneDays.{lane_at}
use Rattle.gtfs_board.proofs.LaneDays.{idle_none, idle_some}
use Rattle.gtfs_board.proofs.service_days.Days.next_active.Goals as goal

pub returns-in-Some-clause-skips : goal.returns-in-Some-clause-skips
returns-in-Some-clause-skips c d since before =
    let max_fits : SFits w32 c.max.result = search rules in
    let number_fits : SFits w32 c.number.result = search rules in
    let from : c.from_number-from.result ≡ int_max c.args.day first_service_day =
    c.from_number-from.ensures ∙ to_z-of_z w32 c.max.result max_fits ∙ c.max.ensures.value ∙ ap (λ x. int_max x first_service_day) (to_z-of_z w32 c.args.day c.ranges.day) in
    idle_some c.args.self.now.feed.now (lane_at c.args.self.now.lanes c.args.lane).service c.service.result.now c.args.day c.from_number-from.result c.in-Some.next d c.service.ensures from c.in-Some.ensures since
    (subst (λ x. d <ℤ x) (to_z-of_z w32 c.number.result number_fits ∙ c.number.ensures.value) before)

pub returns-in-None-clause-skips : goal.returns-in-None-clause-skips
returns-in-None-clause-skips c d since before =
    let max_fits : SFits w32 c.max.result = search rules in
    let from : c.from_number-from.result ≡ int_max c.args.day first_service_day =
    c.from_number-from.ensures ∙ to_z-of_z w32 c.max.result max_fits ∙ c.max.ensures.value ∙ ap (λ x. int_max x first_service_day) (to_z-of_z w32 c.args.day c.ranges.day) in
    idle_none c.args.self.now.feed.now (lane_at c.args.self.now.lanes c.args.lane).service c.service.result.now c.args.day c.from_number-from.result d c.service.ensures from c.in-None.ensures since

use Rattle.std.proofs.Common.{◌≡◌, ◌∙◌, w32, ap, sym}
use Rattle.std.proofs.lemmas.Int.{to_z-of_z}
use Rattle.gtfs_days.specs.Service.{is_active}
use Rattle.gtfs_board.specs.LaneDays.{lane_at, serves_on}
use Rattle.gtfs_board.proofs.LaneDays.{serves_is}
use Rattle.gtfs_board.proofs.service_days.Days.serves.Goals as goal

pub returns-then-not-repeats_service : goal.returns-then-not-repeats_service
returns-then-not-repeats_service c =
    let date : c.from_number.result ≡ c.args.day = c.from_number.ensures ∙ to_z-of_z w32 c.args.day c.ranges.day in
    c.active.ensures ∙ ap (is_active c.service.result.now) date
    ∙ sym (serves_is c.args.self.now.feed.now (lane_at c.args.self.now.lanes c.args.lane).service c.service.result.now c.args.day c.service.ensures)

pub returns : goal.returns
returns c =
    let repeats = c.repeats_service.ensures c.if-not-repeats_service.false in
    c.requires.before repeats.0 ∙ ap (λ n. serves_on c.args.self.now.feed.now n c.args.day) (sym repeats.1)

use Rattle.std.proofs.Common.{rules, w64, SFits, sym, ◌∙◌, ◌≡◌, false}
use Rattle.std.specs.Prelude.{◌≤ℤ◌}
use Rattle.std.proofs.lemmas.Int.{to_z-of_z}
use Rattle.gtfs_board.specs.upcoming.Candidates.{candidate_lt}
use Rattle.gtfs_board.proofs.Days.{least_from-none}
use Rattle.gtfs_board.proofs.Orders.{Each-in}
use Rattle.gtfs_board.proofs.Window.{each_weaker}
use Rattle.gtfs_board.proofs.Candidates.{not_lt-instant}
use Rattle.gtfs_board.proofs.Gathers.{least_from-is}
use Rattle.gtfs_board.proofs.upcoming.gathering.least_waiting.Goals as goal

pub returns-in-Some : goal.returns-in-Some
returns-in-Some c =
    let first = c.in-Some.first in
    let waiting = c.args.queue.now in
    let here = c.in-Some.ensures.0 in
    let low = each_weaker (λ y. candidate_lt y first ≡ false) (λ y. first.instant ≤ℤ y.instant) (λ y h. not_lt-instant y first h) waiting c.in-Some.ensures.1 in
    let high = Each-in (λ y. y.instant ≤ℤ c.args.end) waiting first c.requires here in
    let fits : SFits w64 first.instant = search rules in
    to_z-of_z w64 first.instant fits ∙ sym (least_from-is c.args.end first waiting here high low)

pub returns-in-None : goal.returns-in-None
returns-in-None c = rw (c.in-None.ensures, least_from-none) (to_z-of_z w64 c.args.end c.ranges.end)

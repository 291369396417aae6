use Rattle.std.proofs.Common.{rules, ◌∙◌, w64, SFits}
use Rattle.std.proofs.lemmas.Int.{to_z-of_z}
use Rattle.gtfs_board.proofs.Days.{least_from-none, least_from-one}
use Rattle.gtfs_board.proofs.upcoming.gathering.least_with.Goals as goal

pub returns-in-Some : goal.returns-in-Some
returns-in-Some c =
    let v = c.min.ensures.value in
    let least_fits = c.ranges.least in
    let instant_fits : SFits w64 c.in-Some.head.instant = search rules in
    let result_fits : SFits w64 c.min.result = search rules in
    let plain = simp to_z-of_z at v in
    rw (c.in-Some.is, least_from-one) (to_z-of_z w64 c.min.result result_fits ∙ plain)

pub returns-in-None : goal.returns-in-None
returns-in-None c = rw (c.in-None.is, least_from-none) (to_z-of_z w64 c.args.least c.ranges.least)

use Rattle.std.proofs.Common.{◌≡◌, arith, to_z, of_z, w64}
use Rattle.std.proofs.lemmas.Int.{ints}
use Rattle.gtfs_board.specs.LentKeys.{listed}
use Rattle.gtfs_board.proofs.Pages.{line-appended}
use Rattle.gtfs_board.proofs.line.push_line.Goals as goal

pub returns-clause-appended : goal.returns-clause-appended
returns-clause-appended c =
    let instant : to_z w64 (of_z w64 c.args.departure.now.key.instant) ≡ c.args.departure.now.key.instant = omega (arith, ints, c.requires) in
    let shown = rw instant at c.clock.ensures in
    line-appended c.push_shown.result c.args.zone.now (listed c.args.departure.now) c.clock.result _ _ shown c.push_shown.ensures.appended

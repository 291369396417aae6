use Rattle.std.proofs.Common.{refl, arith, w64, negsuc}
use Rattle.std.specs.Prelude.{◌<ℤ◌}
use Rattle.std.proofs.lemmas.Int.{ints, to_z-of_z}
use Rattle.gtfs_board.specs.declared.upcoming.candidate.Candidate.{Candidate}
use Rattle.gtfs_board.proofs.Floors.{before_lt}
use Rattle.gtfs_board.proofs.floor.floor_before.Goals as goal

pub returns-clause-value : goal.returns-clause-value
returns-clause-value c x since =
    let floor : Candidate = record { instant = c.args.instant; trip = c.args.trip; lane = 0; row = 0; run = 0; sequence = 0; day = negsuc 2_147_483_647; at = 0 } in
    let early : negsuc 2_147_483_647 <ℤ x.day = omega (arith, ints, since) in
    rw (to_z-of_z w64 c.args.instant c.ranges.instant) (before_lt floor x refl refl early)

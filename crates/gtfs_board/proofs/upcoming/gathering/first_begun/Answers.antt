use Rattle.std.proofs.Common.{rules, ◌≡◌, pos, arith, w64, SFits}
use Rattle.std.specs.Prelude.{◌+ℤ◌, ◌-ℤ◌}
use Rattle.std.specs.Int.{int_div_euclid}
use Rattle.std.proofs.lemmas.Int.{to_z-of_z, ints}
use Rattle.gtfs_board.proofs.Starts.{begun, small_quotient}
use Rattle.gtfs_board.proofs.upcoming.gathering.first_begun.Goals as goal

pub returns-clause-from : goal.returns-clause-from
returns-clause-from c =
    let x = c.args.instant in
    let q = c.div_euclid.result in
    let less_fits : SFits w64 (x -ℤ pos 1) = omega (arith, ints, c.requires, c.ranges.instant) in
    let q_fits : SFits w64 q = search rules in
    let is : q ≡ int_div_euclid (x -ℤ pos 1) (pos 86_400) = rw (to_z-of_z w64 x c.ranges.instant, to_z-of_z w64 (x -ℤ pos 1) less_fits) at c.div_euclid.ensures in
    let next_fits : SFits w64 (q +ℤ pos 1) = small_quotient (x -ℤ pos 1) q is less_fits in
    rw (to_z-of_z w64 q q_fits, to_z-of_z w64 (q +ℤ pos 1) next_fits) (begun x q (q +ℤ pos 1) is (search rules)).0

pub returns-clause-least : goal.returns-clause-least
returns-clause-least c =
    let x = c.args.instant in
    let q = c.div_euclid.result in
    let less_fits : SFits w64 (x -ℤ pos 1) = omega (arith, ints, c.requires, c.ranges.instant) in
    let q_fits : SFits w64 q = search rules in
    let is : q ≡ int_div_euclid (x -ℤ pos 1) (pos 86_400) = rw (to_z-of_z w64 x c.ranges.instant, to_z-of_z w64 (x -ℤ pos 1) less_fits) at c.div_euclid.ensures in
    let next_fits : SFits w64 (q +ℤ pos 1) = small_quotient (x -ℤ pos 1) q is less_fits in
    rw (to_z-of_z w64 q q_fits, to_z-of_z w64 (q +ℤ pos 1) next_fits) (begun x q (q +ℤ pos 1) is (search rules)).1

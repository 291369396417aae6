use Rattle.std.proofs.Common.{arith, ◌≡◌, pos, ◌+ℤ◌, to_z, of_z, to_z-of_z, FitsSigned, w32}
use Rattle.jiff_core.proofs.SignedLemmas.{signed_arith}
use Rattle.gtfs_days.proofs.service.Service.regular_after.Goals as goal

pub returns-in-Some : goal.returns-in-Some
returns-in-Some c =
    let back : to_z w32 (of_z w32 c.args.removed) ≡ c.args.removed = to_z-of_z c.ranges.removed in
    let fits : FitsSigned w32 (c.args.removed +ℤ pos 1) = omega (arith, signed_arith, c.requires.low, c.requires.high) in
    let next : to_z w32 (of_z w32 (c.args.removed +ℤ pos 1)) ≡ c.args.removed +ℤ pos 1 = to_z-of_z fits in
    rw (back, next) at c.next_regular.ensures

use Rattle.std.proofs.Common.{◌≤◌, ◌^◌, length, arith}
use Rattle.std.proofs.Math.Nat.{pow-le-pow_right}
use Rattle.gtfs_field.proofs.instant.plain_number.Goals as goal

pub returns-in-Some-3-clause-bound : goal.returns-in-Some-3-clause-bound
returns-in-Some-3-clause-bound c =
    let most : 10 ^ length c.args.digits.now ≤ 10 ^ 12 = pow-le-pow_right {n = 10} (omega arith) {i = length c.args.digits.now} {j = 12} (omega arith) in
    omega (arith, most, c.in-Some.ensures.bound)

use Rattle.std.proofs.Common.{List, ℕ, length, ap, arith, length-append}
use Rattle.gtfs_table.proofs.offsets.Offsets.are_few.Goals as goal

pub returns : goal.returns
returns c =
    let count = simp length-append at (ap (λ (t : List ℕ). length t) c.self.view_is) in
    omega (arith, count, c.as_slice.type_inv, c.as_slice-2.type_inv)

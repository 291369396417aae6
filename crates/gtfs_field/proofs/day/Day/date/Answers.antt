use Rattle.std.proofs.Common.{arith, FitsSigned, w32, w64}
use Rattle.std.proofs.lemmas.Int.{to_z-of_z}
use Rattle.jiff_core.proofs.SignedLemmas.{signed_arith}
use Rattle.gtfs_field.proofs.Dates.{year-from}
use Rattle.gtfs_field.proofs.day.Day.date.Goals as goal

pub returns-clause-from : goal.returns-clause-from
returns-clause-from c =
    let value = rw c.unwrap.ensures at c.from_unix_epoch_day.ensures.value in
    let number = c.self.inside.number in
    let fits : FitsSigned w32 number = omega (arith, signed_arith, c.self.invariant) in
    let from = rw (to_z-of_z w32 number fits) at c.from.ensures in
    let wide : FitsSigned w64 c.from.result = rw from (omega (arith, signed_arith, c.self.invariant)) in
    year-from c.unwrap.result (rw (value, to_z-of_z w64 c.from.result wide, from) (omega (arith, signed_arith, c.self.invariant)))

use Rattle.std.proofs.Common.{arith, ◌∙◌, pos, ◌≤ℤ◌, ◌/◌, ◌%◌, ◌≤◌, FitsSigned, w8, w16, w32}
use Rattle.std.proofs.lemmas.Int.{to_z-of_z, to_z_pos}
use Rattle.jiff_core.proofs.SignedLemmas.{signed_arith}
use Rattle.gtfs_field.proofs.Dates.{day_number-low, day_at-date}
use Rattle.gtfs_field.proofs.day.day_of.Goals as goal

pub from_number-requires-clause-low : goal.from_number-requires-clause-low
from_number-requires-clause-low c =
    let number = c.to_unix_epoch_day.result in
    let fits : FitsSigned w32 number = omega (arith, signed_arith, c.to_unix_epoch_day.ensures.bound) in
    let parts = c.in-Ok.ensures.value in
    let year : pos 1900 ≤ℤ c.in-Ok.date.year = rw parts.0 (omega (arith, signed_arith, c.if-year-lt-FIRST_YEAR.false)) in
    rw (to_z-of_z w32 number fits, c.to_unix_epoch_day.ensures.value) (day_number-low c.in-Ok.date year)

pub returns-in-Ok : goal.returns-in-Ok
returns-in-Ok c =
    let digits = c.args.digits in
    let number = c.to_unix_epoch_day.result in
    let fits : FitsSigned w32 number = omega (arith, signed_arith, c.to_unix_epoch_day.ensures.bound) in
    let parts = c.in-Ok.ensures.value in
    let year = to_z_pos w16 (digits / 10_000) (omega arith) in
    let from : 1900 ≤ digits / 10_000 = omega (arith, signed_arith, year, c.if-year-lt-FIRST_YEAR.false) in
    rw (c.from_number.ensures, to_z-of_z w32 number fits, c.to_unix_epoch_day.ensures.value)
    (day_at-date c.in-Ok.date _ _ _ (parts.0 ∙ year) (parts.1 ∙ to_z_pos w8 (digits / 100 % 100) (omega arith)) (parts.2 ∙ to_z_pos w8 (digits % 100) (omega arith)) from)

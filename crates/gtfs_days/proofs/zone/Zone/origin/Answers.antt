use Rattle.std.proofs.Common.{rules, arith, ◌≡◌, ◌∙◌, to_z, of_z, to_z-of_z, FitsSigned, w32}
use Rattle.std.proofs.lemmas.Int.{ints}
use Rattle.gtfs_field.specs.Calendar.{date_of_day}
use Rattle.gtfs_days.specs.Zone.{noon_offset}
use Rattle.gtfs_days.proofs.zone.Zone.origin.Goals as goal

pub returns-clause-value : goal.returns-clause-value
returns-clause-value c =
    let fits : FitsSigned w32 c.number-number.result = search rules in
    let day : to_z w32 (of_z w32 c.number-number.result) ≡ c.args.day = to_z-of_z fits ∙ c.number-number.ensures.value in
    let offset : c.noon_offset.result ≡ noon_offset c.args.self.now (date_of_day c.args.day) = rw day at (rw c.date_of.ensures at c.noon_offset.ensures) in
    let ahead = c.noon_offset.result.in_range in
    rw (← offset, ← c.seconds-ahead.ensures) (omega (arith, ints, c.from.ensures, c.from-2.ensures, c.number-number.ensures.value, c.number-number.ensures.low, c.number-number.ensures.high, c.seconds-ahead.ensures))

use Rattle.std.proofs.Common.{◌≡◌, ◌≤ℤ◌, ◌∙◌, arith, sym, FitsSigned, w32, w64, pos, negsuc}
use Rattle.std.proofs.lemmas.Int.{to_z-of_z}
use Rattle.jiff_core.specs.Date.{epoch_day}
use Rattle.jiff_core.proofs.SignedLemmas.{signed_arith}
use Rattle.jiff.proofs.Family.{same_date}
use Rattle.gtfs_field.specs.Calendar.{date_of_day}
use Rattle.gtfs_days.proofs.Clocks.{epoch_day-date_of_day}
use Rattle.gtfs_board.proofs.key.writing.date_of.Goals as goal

pub returns : goal.returns
returns c =
    let given = c.number.ensures in
    let fits : FitsSigned w32 c.number.result = omega (arith, signed_arith, given.low, given.high) in
    let same : c.from.result ≡ c.number.result = c.from.ensures ∙ to_z-of_z w32 c.number.result fits in
    let wider : FitsSigned w64 c.from.result = rw same (omega (arith, signed_arith, given.low, given.high)) in
    let low : negsuc 25_566 ≤ℤ c.args.day = rw (← given.value) given.low in
    let high : c.args.day ≤ℤ pos 2_932_896 = rw (← given.value) given.high in
    let value = rw c.unwrap.ensures at c.from_unix_epoch_day.ensures.value in
    let number : epoch_day c.unwrap.result ≡ c.args.day = value ∙ to_z-of_z w64 c.from.result wider ∙ same ∙ given.value in
    same_date c.unwrap.result (date_of_day c.args.day) (number ∙ sym (epoch_day-date_of_day c.args.day low high))

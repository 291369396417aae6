use Rattle.std.proofs.Common.{◌≡◌, ◌<◌, ◌-◌, true, arith, get_or, sym, refl, take}
use Rattle.std.specs.Char.{is_ascii_digit}
use Rattle.std.proofs.lemmas.Int.Digits.{digits_value_more}
use Rattle.gtfs_field.specs.Digits.{number}
use Rattle.gtfs_field.proofs.Numerals.{all_digits-more, all_digits-not, digit_value-digit, digit-bounds}
use Rattle.gtfs_field.proofs.Fractions.{billionths-more, weight-more, bound-more}
use Rattle.gtfs_field.proofs.coord.billionths_of.Goals as goal

pub returns-then-not-is_ascii_digit : goal.returns-then-not-is_ascii_digit
returns-then-not-is_ascii_digit c =
    record { value = rw (all_digits-not c.args.fraction.now c.loop-byte.byte-index c.loop-byte-test.true (sym c.if-not-is_ascii_digit.ensures.value)) refl }

pub loop-byte-preserved : goal.loop-byte-preserved
loop-byte-preserved c =
    let t = c.args.fraction.now in
    let i = c.loop-byte.byte-index in
    let before = c.loop-byte.invariant in
    let digit : is_ascii_digit (get_or t i 0) ≡ true = sym c.if-not-is_ascii_digit.ensures.value in
    let d = get_or t i 0 - 48 in
    let small : d < 10 = omega (arith, digit-bounds (get_or t i 0) digit) in
    record {
      digits = all_digits-more t i c.loop-byte-test.true before.digits digit;
      weight = rw before.weight (weight-more i);
      value = rw (c.from.ensures, before.weight, before.value, digits_value_more 10 t i c.loop-byte-test.true, digit_value-digit (get_or t i 0) digit)
          (sym (billionths-more (number (take i t)) d i small));
      bound = rw c.from.ensures (bound-more _ _ d small before.bound);
    }

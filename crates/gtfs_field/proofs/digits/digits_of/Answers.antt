use Rattle.std.proofs.Common.{◌≡◌, true, get_or, sym}
use Rattle.std.specs.Char.{is_ascii_digit}
use Rattle.gtfs_field.proofs.Numerals.{all_digits-more, all_digits-not, number-more, number-lt}
use Rattle.gtfs_field.proofs.digits.digits_of.Goals as goal

pub returns-then-not-is_ascii_digit-clause-value : goal.returns-then-not-is_ascii_digit-clause-value
returns-then-not-is_ascii_digit-clause-value c =
    rw (all_digits-not c.args.text.now c.loop-byte.byte-index c.loop-byte-test.true (sym c.if-not-is_ascii_digit.ensures.value))

pub loop-byte-preserved : goal.loop-byte-preserved
loop-byte-preserved c =
    let i = c.loop-byte.byte-index in
    let digit : is_ascii_digit (get_or c.args.text.now i 0) ≡ true = sym c.if-not-is_ascii_digit.ensures.value in
    record {
      digits = all_digits-more c.args.text.now i c.loop-byte-test.true c.loop-byte.invariant.digits digit;
      value = rw (c.saturating_add-number.ensures, c.saturating_mul.ensures, c.from.ensures)
          (number-more _ c.args.text.now i c.loop-byte.number c.loop-byte-test.true digit c.loop-byte.invariant.value);
    }

pub returns-clause-bound : goal.returns-clause-bound
returns-clause-bound c =
    number-lt _ c.args.text.now c.loop-byte.byte-index c.loop-byte.number c.loop-byte-test.false c.loop-byte.invariant.digits c.loop-byte.invariant.value

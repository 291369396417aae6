use Rattle.std.proofs.Common.{arith, sym}
use Rattle.gtfs_field.proofs.Colours.{six_hexadecimal}
use Rattle.gtfs_field.proofs.colour.read_colour.Goals as goal

pub from_bits-requires : goal.from_bits-requires
from_bits-requires c =
    let colour = six_hexadecimal c.args.text.now (rw c.as_bytes.ensures.value at (sym c.if-not-is_hexadecimal.ensures)) in
    let value = rw colour.same at c.in-Ok.ensures.value.1 in
    omega (arith, value, colour.below)

pub returns-in-Err : goal.returns-in-Err
returns-in-Err c =
    let colour = six_hexadecimal c.args.text.now (rw c.as_bytes.ensures.value at (sym c.if-not-is_hexadecimal.ensures)) in
    absurd (c.in-Err.ensures.value (colour.numeral, rw colour.same (omega (arith, colour.below))))

use Rattle.gtfs_field.proofs.Colours.{places}
use Rattle.gtfs_field.proofs.colour.hexadecimal.Goals as goal

pub returns : goal.returns
returns c = cc (places c.args.bits, c.hex_digit.ensures, c.hex_digit-2.ensures, c.hex_digit-3.ensures, c.hex_digit-4.ensures, c.hex_digit-5.ensures, c.hex_digit-6.ensures)

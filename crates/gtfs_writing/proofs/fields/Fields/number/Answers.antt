use Rattle.std.proofs.Common.{arith}
use Rattle.gtfs_writing.proofs.PlainTexts.{comma-ascii, comma-plain}
use Rattle.gtfs_writing.proofs.fields.Fields.number.Goals as goal

pub plain-requires-clause-ascii : goal.plain-requires-clause-ascii
plain-requires-clause-ascii g c = comma-ascii c.args.number _ (omega arith) c.one_digit.ensures

pub plain-requires-clause-plain : goal.plain-requires-clause-plain
plain-requires-clause-plain g c = comma-plain c.args.number _ (omega arith) c.one_digit.ensures

pub plain-requires-in-10-to-99-clause-ascii : goal.plain-requires-in-10-to-99-clause-ascii
plain-requires-in-10-to-99-clause-ascii g c = comma-ascii c.args.number _ (omega arith) c.two_digits.ensures

pub plain-requires-in-10-to-99-clause-plain : goal.plain-requires-in-10-to-99-clause-plain
plain-requires-in-10-to-99-clause-plain g c = comma-plain c.args.number _ (omega arith) c.two_digits.ensures

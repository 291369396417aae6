use Rattle.std.proofs.Common.{arith}
use Rattle.gtfs_writing.proofs.PlainTexts.{comma-ascii, comma-plain}
use Rattle.gtfs_writing.proofs.sink.Sink.choices.Goals as goal

pub plain_with_comma-requires-2-clause-ascii : goal.plain_with_comma-requires-2-clause-ascii
plain_with_comma-requires-2-clause-ascii g c = comma-ascii _ _ (omega (arith, c.number.ensures.bound)) c.one_digit.ensures

pub plain_with_comma-requires-2-clause-plain : goal.plain_with_comma-requires-2-clause-plain
plain_with_comma-requires-2-clause-plain g c = comma-plain _ _ (omega (arith, c.number.ensures.bound)) c.one_digit.ensures

pub plain_with_comma-requires-3-clause-ascii : goal.plain_with_comma-requires-3-clause-ascii
plain_with_comma-requires-3-clause-ascii g c = comma-ascii _ _ (omega (arith, c.number-2.ensures.bound)) c.one_digit-2.ensures

pub plain_with_comma-requires-3-clause-plain : goal.plain_with_comma-requires-3-clause-plain
plain_with_comma-requires-3-clause-plain g c = comma-plain _ _ (omega (arith, c.number-2.ensures.bound)) c.one_digit-2.ensures

pub plain_with_comma-requires-in-Some-clause-ascii : goal.plain_with_comma-requires-in-Some-clause-ascii
plain_with_comma-requires-in-Some-clause-ascii g c = comma-ascii _ _ (omega (arith, c.number-in-Some.ensures.bound)) c.one_digit-in-Some.ensures

pub plain_with_comma-requires-in-Some-clause-plain : goal.plain_with_comma-requires-in-Some-clause-plain
plain_with_comma-requires-in-Some-clause-plain g c = comma-plain _ _ (omega (arith, c.number-in-Some.ensures.bound)) c.one_digit-in-Some.ensures

use Rattle.std.proofs.Common.{◌<◌, length, arith}
use Rattle.std.proofs.lemmas.Bool.Decides.{nat_tests}
use Rattle.gtfs_table.proofs.BlankFacts.{none-cut, nothing-cut}
use Rattle.gtfs_table.proofs.blanks.has_visible_ends.Goals as goal

pub returns-then-is_empty : goal.returns-then-is_empty
returns-then-is_empty c _ = none-cut c.args.bytes.now (grind (arith, nat_tests, c.is_empty.ensures, c.if-is_empty.true))

pub returns-then-is_visible : goal.returns-then-is_visible
returns-then-is_visible c last =
    let some : 0 < length c.args.bytes.now = grind (arith, nat_tests, c.is_empty.ensures, c.if-is_empty.false) in
    nothing-cut c.args.bytes.now some (c.is_visible.ensures c.if-is_visible.true) (c.is_visible-then-is_visible.ensures last)

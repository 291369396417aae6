use Rattle.std.proofs.Common.{◌<◌, length, arith}
use Rattle.std.proofs.lemmas.Bool.Decides.{nat_tests}
use Rattle.gtfs_table.proofs.BlankFacts.{something-left}
use Rattle.gtfs_table.proofs.blanks.begins_visible.Goals as goal

pub returns-then-not-is_empty : goal.returns-then-not-is_empty
returns-then-not-is_empty c visible =
    let some : 0 < length c.as_bytes-bytes.result.now = grind (arith, nat_tests, c.is_empty.ensures, c.if-not-is_empty.true) in
    let left = something-left c.as_bytes-bytes.result.now some (c.is_visible.ensures visible) in
    rw (c.as_bytes-bytes.ensures.value) at left

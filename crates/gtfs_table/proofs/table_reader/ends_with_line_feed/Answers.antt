use Rattle.std.proofs.Common.{Some, None}
use Rattle.gtfs_table.proofs.PieceFacts.{feeds-by_last}
use Rattle.gtfs_table.proofs.table_reader.ends_with_line_feed.Goals as goal

pub returns-in-Some : goal.returns-in-Some
returns-in-Some c = feeds-by_last c.args.row.now (Some c.in-Some.byte.now) (rw (c.as_bytes.ensures.value, c.raw.ensures, c.len-fields.ensures) at c.in-Some.ensures.value)

pub returns-in-None : goal.returns-in-None
returns-in-None c = feeds-by_last c.args.row.now None (rw (c.as_bytes.ensures.value, c.raw.ensures, c.len-fields.ensures) at c.in-None.ensures.value)

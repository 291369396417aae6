use Rattle.std.proofs.Common.{◌∙◌, ap, arith}
use Rattle.gtfs_table.specs.FilePieces.{feeds_last}
use Rattle.gtfs_table.proofs.PieceFacts.{ends_within-by_last, last-record}
use Rattle.gtfs_table.proofs.table_reader.TableReader.ends_within.Goals as goal

pub returns-then-last-count : goal.returns-then-last-count
returns-then-last-count c =
    let rs = c.self.inside.records in
    let last = c.len-last.result in
    rw (← c.self.view_is) (c.ends_with_line_feed.ensures
    ∙ ap feeds_last (c.record.ensures ∙ last-record rs last c.len-last.ensures (omega (arith, c.if-last-count.true)))
    ∙ ends_within-by_last rs c.args.count (omega (arith, c.if-last-count.true, c.len-last.ensures)))

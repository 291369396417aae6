use Rattle.std.specs.Cow.{cow_value}
use Rattle.gtfs_rows.specs.RowsInMemory.{content_of_parts}
use Rattle.gtfs_merge.proofs.CutMerges.{rows-of-trimmed}
use Rattle.gtfs_merge.proofs.merging.cutoff.rows_cut_at.Goals as goal

pub returns : goal.returns
returns c =
    rows-of-trimmed c.args.near c.args.day (content_of_parts (cow_value c.args.a)) (content_of_parts (cow_value c.args.b))
    (content_of_parts c.in_ok-first.first) (content_of_parts c.in_ok-second.second)
    c.in_ok-first.ensures c.in_ok-second.ensures c.rows_of_pair.result c.rows_of_pair.ensures

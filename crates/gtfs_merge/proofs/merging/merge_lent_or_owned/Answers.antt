use Rattle.std.specs.Cow.{cow_value}
use Rattle.gtfs_rows.specs.RowsInMemory.{content_of_parts}
use Rattle.gtfs_merge.proofs.CutMerges.{merged-of-rows, refused-of-rows, zone-told}
use Rattle.gtfs_merge.proofs.merging.merge_lent_or_owned.Goals as goal

pub rows_of-requires-clause-zone : goal.rows_of-requires-clause-zone
rows_of-requires-clause-zone c =
    zone-told (cow_value c.args.a) (cow_value c.args.b) _ _ _ c.as_ref.ensures c.as_ref-2.ensures c.zones_differ.ensures c.if-zones_differ.false

pub returns-clause-merged : goal.returns-clause-merged
returns-clause-merged c =
    let o = c.args.options.now in
    let a = cow_value c.args.a in
    let b = cow_value c.args.b in
    merged-of-rows o.near o.cutoff (content_of_parts a) (content_of_parts b)
    (zone-told a b _ _ _ c.as_ref.ensures c.as_ref-2.ensures c.zones_differ.ensures c.if-zones_differ.false)
    o.file_limit c.in_ok-rows.rows c.in_ok-rows.ensures c.limited.result c.limited.ensures.merged

pub returns-clause-refused : goal.returns-clause-refused
returns-clause-refused c =
    let o = c.args.options.now in
    let a = cow_value c.args.a in
    let b = cow_value c.args.b in
    refused-of-rows o.near o.cutoff (content_of_parts a) (content_of_parts b)
    (zone-told a b _ _ _ c.as_ref.ensures c.as_ref-2.ensures c.zones_differ.ensures c.if-zones_differ.false)
    o.file_limit c.in_ok-rows.rows c.in_ok-rows.ensures c.limited.result c.limited.ensures.refused

use Rattle.gtfs_rows.specs.RowsInMemory.{content_of_parts}
use Rattle.gtfs_merge.specs.declared.kind.Kind.{Kind}
use Rattle.gtfs_merge.proofs.CutSides.{keeps-departures}
use Rattle.gtfs_merge.proofs.Few.{few-enough}
use Rattle.gtfs_merge.proofs.merging.merge_owned.Goals as goal

pub returns-clause-departures : goal.returns-clause-departures
returns-clause-departures c =
    let a = content_of_parts c.args.a in
    let b = content_of_parts c.args.b in
    keeps-departures c.args.options.now.near c.args.options.now.cutoff a b c.requires.cutoff
    c.soundness.ensures.a.content c.soundness.ensures.b.content (λ (k : Kind). few-enough k a b (c.soundness.ensures.few k))

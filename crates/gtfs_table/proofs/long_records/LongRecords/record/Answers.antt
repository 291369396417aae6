use Rattle.std.proofs.Common.{◌∙◌, arith}
use Rattle.gtfs_table.proofs.PartFacts.{count-parts, bounds-of, part-of}
use Rattle.gtfs_table.proofs.long_records.LongRecords.record.Goals as goal

pub span_far-start-requires : goal.span_far-start-requires
span_far-start-requires c = omega (arith, c.requires, count-parts c.self.inside.starts c.self.inside.fields c.args.self.now c.self.view_is)

pub of_long-requires-clause-start : goal.of_long-requires-clause-start
of_long-requires-clause-start c =
    let b = bounds-of c.self.inside.starts c.self.inside.fields c.args.self.now c.args.i c.self.view_is c.self.invariant.rising c.requires in
    rw (c.span_far-start.ensures.start, c.span_far-start.ensures.end, c.len.ensures) (b.1)

pub of_long-requires-clause-end : goal.of_long-requires-clause-end
of_long-requires-clause-end c =
    let b = bounds-of c.self.inside.starts c.self.inside.fields c.args.self.now c.args.i c.self.view_is c.self.invariant.rising c.requires in
    rw (c.span_far-start.ensures.end, c.len.ensures) (b.2)

pub returns : goal.returns
returns c =
    let found = rw (c.span_far-start.ensures.start, c.span_far-start.ensures.end, c.len.ensures) at c.of_long.ensures in
    found ∙ part-of c.self.inside.starts c.self.inside.fields c.args.self.now c.args.i c.self.view_is c.requires

use Rattle.gtfs_table.proofs.PartFacts.{bounds-of, part-of}
use Rattle.gtfs_table.proofs.runs.Runs.get.Goals as goal

pub span-start-requires : goal.span-start-requires
span-start-requires c = (bounds-of c.self.inside.starts c.self.inside.bytes.items c.args.self.now c.args.i c.self.view_is c.self.invariant.rising c.requires).0

pub slice_bounds-result-count : goal.slice_bounds-result-count
slice_bounds-result-count c =
    let b = bounds-of c.self.inside.starts c.self.inside.bytes.items c.args.self.now c.args.i c.self.view_is c.self.invariant.rising c.requires in
    rw (c.span-start.ensures.start, c.span-start.ensures.end, c.as_slice-bytes.ensures.value) b.1

pub slice_bounds-result-start : goal.slice_bounds-result-start
slice_bounds-result-start c =
    let b = bounds-of c.self.inside.starts c.self.inside.bytes.items c.args.self.now c.args.i c.self.view_is c.self.invariant.rising c.requires in
    rw (c.span-start.ensures.start, c.span-start.ensures.end, c.as_slice-bytes.ensures.value) b.1

pub slice_bounds-result-end : goal.slice_bounds-result-end
slice_bounds-result-end c =
    let b = bounds-of c.self.inside.starts c.self.inside.bytes.items c.args.self.now c.args.i c.self.view_is c.self.invariant.rising c.requires in
    let end = rw (← c.as_slice-bytes.ensures.value) at b.2 in
    rw (c.span-start.ensures.end) end

pub returns : goal.returns
returns c =
    let part = part-of c.self.inside.starts c.self.inside.bytes.items c.args.self.now c.args.i c.self.view_is c.requires in
    rw (c.span-start.ensures.start, c.span-start.ensures.end, c.as_slice-bytes.ensures.value) part

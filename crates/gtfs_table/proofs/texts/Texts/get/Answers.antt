use Rattle.csv.proofs.RecordFacts.{text-at}
use Rattle.gtfs_table.proofs.PartFacts.{bounds-of, part-of}
use Rattle.gtfs_table.proofs.texts.Texts.get.Goals as goal

pub span-start-requires : goal.span-start-requires
span-start-requires c = (bounds-of c.self.inside.starts c.self.inside.bytes.items c.args.self.now c.args.i c.self.view_is c.self.invariant.rising c.requires).0

pub slice_bounds-from_utf8_unchecked-count : goal.slice_bounds-from_utf8_unchecked-count
slice_bounds-from_utf8_unchecked-count c =
    let b = bounds-of c.self.inside.starts c.self.inside.bytes.items c.args.self.now c.args.i c.self.view_is c.self.invariant.rising c.requires in
    rw (c.span-start.ensures.start, c.span-start.ensures.end, c.as_slice-bytes.ensures.value) b.1

pub slice_bounds-from_utf8_unchecked-end : goal.slice_bounds-from_utf8_unchecked-end
slice_bounds-from_utf8_unchecked-end c =
    let b = bounds-of c.self.inside.starts c.self.inside.bytes.items c.args.self.now c.args.i c.self.view_is c.self.invariant.rising c.requires in
    let end = rw (← c.as_slice-bytes.ensures.value) at b.2 in
    rw (c.span-start.ensures.end) end

pub from_utf8_unchecked-requires : goal.from_utf8_unchecked-requires
from_utf8_unchecked-requires c =
    let texts = rw (c.self.view_is) at c.self.invariant.utf8 in
    let text = text-at c.args.self.now c.args.i c.requires texts in
    let part = part-of c.self.inside.starts c.self.inside.bytes.items c.args.self.now c.args.i c.self.view_is c.requires in
    rw (c.span-start.ensures.start, c.span-start.ensures.end, c.as_slice-bytes.ensures.value, part) text

pub returns : goal.returns
returns c =
    let part = part-of c.self.inside.starts c.self.inside.bytes.items c.args.self.now c.args.i c.self.view_is c.requires in
    rw (c.from_utf8_unchecked.ensures, c.span-start.ensures.start, c.span-start.ensures.end, c.as_slice-bytes.ensures.value) part

pub slice_bounds-from_utf8_unchecked-start : goal.slice_bounds-from_utf8_unchecked-start
slice_bounds-from_utf8_unchecked-start c =
    let b = bounds-of c.self.inside.starts c.self.inside.bytes.items c.args.self.now c.args.i c.self.view_is c.self.invariant.rising c.requires in
    rw (c.span-start.ensures.start, c.span-start.ensures.end, c.as_slice-bytes.ensures.value) b.1

use Rattle.std.proofs.Common.{◌≡◌, ◌<◌, ◌∙◌, ◌+◌, ◌-◌, [], length, take, drop, sym, arith}
use Rattle.std.proofs.lemmas.List.{get_or_past}
use Rattle.gtfs_table.proofs.MarkedFacts.{count-record, far-field, mark-bounds, near-field, near-text, next-field}
use Rattle.gtfs_table.proofs.NearFacts.{told-utf8}
use Rattle.gtfs_table.proofs.record.Record.raw.Goals as goal

pub from_utf8_unchecked-requires : goal.from_utf8_unchecked-requires
from_utf8_unchecked-requires c = near-text c.self.inside.marks.now c.self.inside.bytes.now c.args.n c.self.invariant.text (omega (arith, c.if-n-short.true))

pub slice_bounds-from_utf8_unchecked-count : goal.slice_bounds-from_utf8_unchecked-count
slice_bounds-from_utf8_unchecked-count c = (mark-bounds c.self.inside.marks.now _ c.args.n c.self.invariant.marks (omega (arith, c.if-n-short.true))).0

pub slice_bounds-from_utf8_unchecked-start : goal.slice_bounds-from_utf8_unchecked-start
slice_bounds-from_utf8_unchecked-start c = (mark-bounds c.self.inside.marks.now _ c.args.n c.self.invariant.marks (omega (arith, c.if-n-short.true))).0

pub slice_bounds-from_utf8_unchecked-end : goal.slice_bounds-from_utf8_unchecked-end
slice_bounds-from_utf8_unchecked-end c = (mark-bounds c.self.inside.marks.now _ c.args.n c.self.invariant.marks (omega (arith, c.if-n-short.true))).1

pub returns-then-n-short : goal.returns-then-n-short
returns-then-n-short c =
    c.from_utf8_unchecked.ensures ∙ near-field c.self.inside.marks.now c.self.inside.bytes.now _ c.args.self.now c.args.n c.self.view_is (omega (arith, c.if-n-short.true))

pub from_utf8_unchecked-requires-then-i-saturating_sub : goal.from_utf8_unchecked-requires-then-i-saturating_sub
from_utf8_unchecked-requires-then-i-saturating_sub c =
    let r = c.self.inside in
    let near = c.self.invariant.near in
    let i = c.args.n - c.saturating_sub-short.result in
    let there : i + 1 < length r.distances.now = omega arith in
    told-utf8 r.fields.now r.start (r.end - r.start) i _ c.are_utf8.ensures (omega (arith, c.self.invariant.rising, c.self.invariant.within)) (omega (arith, near.few)) (near.told i there)

pub returns-then-i-saturating_sub : goal.returns-then-i-saturating_sub
returns-then-i-saturating_sub c =
    let r = c.self.inside in
    let near : c.saturating_sub-short.result ≡ length r.marks.now - 1 = omega (arith, c.saturating_sub-short.ensures) in
    let there : c.args.n - (length r.marks.now - 1) + 1 < length r.distances.now = omega (arith, near, c.if-i-saturating_sub.true) in
    let told = c.self.invariant.near.told (c.args.n - (length r.marks.now - 1)) there in
    let text = rw near at c.from_utf8_unchecked-then-i-saturating_sub.ensures in
    text ∙ told ∙ next-field r.marks.now r.bytes.now (take (r.end - r.start) (drop r.start r.fields.now)) c.args.self.now c.args.n c.self.view_is (omega (arith, near, c.if-n-short.false))

pub returns-then-i-self : goal.returns-then-i-self
returns-then-i-self c =
    let r = c.self.inside in
    let near : c.saturating_sub-short.result ≡ length r.marks.now - 1 = omega (arith, c.saturating_sub-short.ensures) in
    let there = rw near at c.get_far.ensures in
    there ∙ far-field r.marks.now r.bytes.now r.fields.now c.args.self.now r.start (r.end - r.start) c.args.n c.self.view_is (omega (arith, near, c.if-n-short.false)) (omega (arith, near, c.if-i-self.true))

pub returns-else-i-self : goal.returns-else-i-self
returns-else-i-self c =
    let r = c.self.inside in
    let near : c.saturating_sub-short.result ≡ length r.marks.now - 1 = omega (arith, c.saturating_sub-short.ensures) in
    let count = count-record r.marks.now r.bytes.now r.fields.now c.args.self.now r.start (r.end - r.start) c.self.view_is (omega (arith, c.self.invariant.rising, c.self.invariant.within)) in
    sym (get_or_past c.args.self.now c.args.n [] (omega (arith, near, count, c.if-n-short.false, c.if-i-self.false)))

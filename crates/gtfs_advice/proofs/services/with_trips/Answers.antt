use Rattle.std.proofs.Common.{◌≤◌, ◌∙◌, Bool, Global, Vec, ap, length, subst, sym}
use Rattle.gtfs_advice.proofs.Telling.{item_at}
use Rattle.gtfs_advice.proofs.UsedFacts.{all_marked, marked_more, unmarked_more}
use Rattle.gtfs_advice.proofs.services.with_trips.Goals as goal
use Rattle.gtfs_advice.proofs.services.with_trips.Goals.{then-counts, else-counts}

pub loop-number-preserved : goal.loop-number-preserved
loop-number-preserved c =
    let p = c.args.parts.now in
    let n = c.loop-number.number in
    let t = c.trip-item.result in
    let r = c.of_trip.result.now in
    let there = item_at p.trips c.as_slice-trip-items.result.now n t c.as_slice-trip-items.ensures c.loop-number-test.true c.trip-item.is in
    let before = c.loop-number.marks.items in
    let after = c.if-counts.marks.items in
    elim c.if-counts.branch [
      | then-counts w ↦
          marked_more p c.requires c.args.with_calls n t r there c.of_trip.ensures before after c.loop-number.invariant (sym c.counts.ensures ∙ w.if-counts.true)
          (ap (λ (v : Vec Bool Global). v.items) w.marks-is)
      | else-counts w ↦
          unmarked_more p c.requires c.args.with_calls n t r there c.of_trip.ensures before after c.loop-number.invariant (sym c.counts.ensures ∙ w.if-counts.false)
          (ap (λ (v : Vec Bool Global). v.items) w.marks-is)
    ]

pub returns : goal.returns
returns c =
    all_marked c.args.parts.now c.requires c.args.with_calls c.loop-number.number c.loop-number.marks.items
    (subst (λ xs. length xs ≤ c.loop-number.number) c.as_slice-trip-items.ensures c.loop-number-test.false) c.loop-number.invariant

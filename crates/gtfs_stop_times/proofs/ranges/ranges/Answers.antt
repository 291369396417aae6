use Rattle.std.proofs.Common.{◌≡◌, ◌+◌, ◌-◌, ◌∙◌, Some, [], ap, arith, drop, get_or, length, map, subst, sym, take}
use Rattle.std.specs.Prelude.{slice_get}
use Rattle.std.proofs.lemmas.List.{take_all}
use Rattle.std.proofs.lemmas.Option.{slice_get-get_or}
use Rattle.gtfs_stop_times.specs.StopTimesByTrip.{AreWithin}
use Rattle.gtfs_table.specs.FieldOffsets.{parts}
use Rattle.gtfs_table.proofs.PartFacts.{length-parts, part-at, part-bounds}
use Rattle.gtfs_stop_times.specs.HeadsignedRows.{numbers_in}
use Rattle.gtfs_stop_times.proofs.ByTripFacts.{one-within, part-more}
use Rattle.gtfs_stop_times.proofs.ranges.ranges.Goals as goal

pub range-requires : goal.range-requires
range-requires c =
    let bounds = part-bounds 0 c.args.starts.now (length c.args.order.now) c.loop-trip.trip c.requires c.loop-trip-test.true in
    rw (c.end_of.ensures, c.len-len.ensures) bounds

pub loop-trip-preserved : goal.loop-trip-preserved
loop-trip-preserved c =
    let l = c.loop-trip in
    let order = c.args.order.now in
    let starts = c.args.starts.now in
    let range = c.in-Some.range in
    let items = c.in_ok-push-in-Some.ensures.items in
    let part = get_or (parts starts order) l.trip [] in
    let at : slice_get (parts starts order) l.trip ≡ Some part = slice_get-get_or (parts starts order) l.trip [] (omega (arith, c.loop-trip-test.true, length-parts starts order)) in
    let end = c.end_of.ensures ∙ ap (get_or starts (l.trip + 1)) c.len-len.ensures in
    let is : numbers_in range ≡ part = c.in-Some.ensures.numbers
    ∙ ap (λ e. take (e - get_or starts l.trip 0) (drop (get_or starts l.trip 0) order)) end ∙ sym (part-at starts order l.trip c.loop-trip-test.true) in
    record {
      numbers = ap (map numbers_in) items ∙ part-more starts order l.ranges.items range l.trip part l.invariant.numbers at is;
      within = λ rows below. subst (AreWithin rows) (sym items) (one-within rows l.ranges.items range (l.invariant.within rows below) (c.in-Some.ensures.within rows below));
    }

pub returns-clause-numbers : goal.returns-clause-numbers
returns-clause-numbers c = c.loop-trip.invariant.numbers
    ∙ take_all c.loop-trip.trip (parts c.args.starts.now c.args.order.now) (omega (arith, c.loop-trip-test.false, length-parts c.args.starts.now c.args.order.now))

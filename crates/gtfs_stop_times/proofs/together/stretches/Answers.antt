use Rattle.std.proofs.Common.{◌≡◌, ◌≤◌, ◌∙◌, ◌+◌, ◌-◌, ◌++◌, ap, arith, drop, length, refl, subst, sym}
use Rattle.std.specs.List.{All, flat_map}
use Rattle.std.proofs.lemmas.List.{drop-drop, length-drop}
use Rattle.std.proofs.lemmas.List.Elements.{All-push}
use Rattle.gtfs_stop_times.specs.KeptLists.{stop_times_at}
use Rattle.gtfs_stop_times.specs.KeptStretches.{AreRising, IsStretch, numbers_of}
use Rattle.gtfs_stop_times.specs.declared.together.Stretch.{Stretch}
use Rattle.gtfs_stop_times.proofs.StretchFacts.{cut_further, first_stretch, rest_rising}
use Rattle.gtfs_stop_times.proofs.together.stretches.Goals as goal

pub loop-start-preserved : goal.loop-start-preserved
loop-start-preserved c =
    let rows = c.args.ranks.now.rows.now in
    let notes = c.args.ranks.now.notes.now in
    let order = c.args.order.now in
    let l = c.loop-start in
    let end = c.end_of-end.result in
    let of = c.end_of-end.ensures in
    let n = end - l.start in
    let left = drop l.start order in
    let s : Stretch = record { trip = c.trip-trip.result; start = l.start; end = end } in
    let items = c.in_ok-push.ensures.items in
    let sum : l.start + n ≡ end = omega (arith, of.some) in
    let back : drop n left ≡ drop end order = drop-drop n l.start order ∙ ap (λ m. drop m order) sum in
    record {
      low = of.within;
      all = (λ i. flat_map (numbers_of order) (items i) ++ sym back i) ∙ cut_further rows notes order l.stretches.items s n left order refl l.invariant.all;
      within = subst (All (λ t. (t.start ≤ t.end) × (t.end ≤ length order))) (sym items)
          (All-push (λ t. (t.start ≤ t.end) × (t.end ≤ length order)) l.stretches.items s l.invariant.within (omega (arith, of.some), of.within));
      each = λ up.
          let before = l.invariant.each up in (
            subst (All (IsStretch rows notes order)) (sym items)
                (All-push (IsStretch rows notes order) l.stretches.items s before.0
                (first_stretch rows notes order n left s refl (omega (arith, of.within, of.some, length-drop l.start order)) before.1 of.of_trip)),
            subst (λ ns. AreRising (stop_times_at rows notes ns)) back (rest_rising rows notes order n left before.1),
          );
    }

pub returns-clause-each : goal.returns-clause-each
returns-clause-each c = λ up. (c.loop-start.invariant.each up).0

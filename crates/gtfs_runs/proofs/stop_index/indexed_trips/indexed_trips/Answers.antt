use Rattle.std.proofs.Common.{◌≡◌, ◌<◌, ◌+◌, ◌-◌, ◌∙◌, [], ◌∷◌, get_or, length, sym, ap, subst, arith}
use Rattle.std.proofs.lemmas.List.{get_or_default, length-append}
use Rattle.std.specs.List.{slice_get}
use Rattle.gtfs_rows.specs.Trips.{frequencies_by_trip}
use Rattle.gtfs_runs.specs.steps.TripGroups.{below, group_of}
use Rattle.gtfs_runs.proofs.GroupFacts.{numbered, one_indexed_more, trips_known}
use Rattle.gtfs_runs.proofs.stop_index.indexed_trips.indexed_trips.Goals as goal

pub indexed_trip-requires : goal.indexed_trip-requires
indexed_trip-requires c =
    let p = c.args.feed.now in
    subst (λ x. x.trip.0 < length p.trips) (sym c.index-sorted-rank.is) (trips_known p c.soundness.ensures c.args.sorted.now c.requires.trips c.loop-rank.rank c.index-sorted-rank.result c.loop-rank-test.true)

pub loop-rank-preserved : goal.loop-rank-preserved
loop-rank-preserved c =
    let p = c.args.feed.now in
    let xs = c.args.sorted.now in
    let n = c.loop-rank.rank in
    let y = c.index-sorted-rank.result in
    let x = c.indexed_trip.result in
    let within : n < length xs = c.loop-rank-test.true in
    let inv = c.loop-rank.invariant in
    record {
      counted = ap length c.in_ok-push.ensures.items ∙ length-append c.loop-rank.trips.items (x ∷ []) ∙ ap (λ m. m + 1) inv.counted;
      each = one_indexed_more p xs c.loop-rank.trips.items _ n x inv.counted c.in_ok-push.ensures.items
          (λ d.
          let here : y ≡ get_or xs n d = c.index-sorted-rank.is ∙ get_or_default xs n y d within in
          record {
            group = c.indexed_trip.ensures.group ∙ c.in_ok-group.ensures d ∙ numbered p c.soundness.ensures xs c.requires.trips n d within;
            service = c.indexed_trip.ensures.service ∙ ap (λ z. z.service) here ∙ ap (λ g. g.0) (c.requires.trips.groups n d within);
            start = c.indexed_trip.ensures.start ∙ ap (λ z. z.start) here ∙ c.requires.trips.starts n d within;
            marked = λ fs at. c.indexed_trip.ensures.marked fs (ap (λ z. slice_get (frequencies_by_trip p) z.trip.0) here ∙ at);
          })
          inv.each;
      group = λ d some.
          let last : n + 1 - 1 ≡ n = omega arith in
          c.in_ok-group.ensures d ∙ ap (λ m. below xs (group_of (get_or xs m d))) (sym last);
    }

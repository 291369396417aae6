use Rattle.std.proofs.Common.{◌≡◌, ◌+◌, ◌-◌, ◌++◌, ◌∷◌, ◌∙◌, [], ap, arith, map, subst, sym, take}
use Rattle.std.proofs.lemmas.List.{map_push, take_more}
use Rattle.gtfs_stop_times.specs.StopTimesByTrip.{AreCounted, rows_in}
use Rattle.gtfs_stop_times.specs.JoinedStopTimes.{list_of}
use Rattle.gtfs_stop_times.proofs.RangeFacts.{one-more}
use Rattle.gtfs_stop_times.proofs.joined.ranges_of.Goals as goal

pub loop-trip-preserved : goal.loop-trip-preserved
loop-trip-preserved c =
    let first = c.args.first.now in
    let second = c.args.second.now in
    let all = first.rows.items ++ second.rows.items in
    let g = list_of (map (rows_in first.rows.items) first.ranges.items) (map (rows_in second.rows.items) second.ranges.items) in
    let so_far = c.loop-trip.of_trips.items in
    let r = c.range_of-range.result in
    let pushed : c.push.new.self.items ≡ so_far ++ r ∷ [] = c.in_ok-push.ensures.items in
    let counted : AreCounted first.rows.items second.rows.items (so_far ++ r ∷ []) (c.loop-trip.len + (r.end - r.start)) =
    one-more first.rows.items second.rows.items so_far c.loop-trip.len r c.loop-trip.invariant.0 c.range_of-range.ensures.within c.range_of-range.ensures.unbroken in
    let sum : c.in-Some.sum ≡ c.loop-trip.len + (r.end - r.start) = c.in-Some.ensures.1 in (
      subst (λ n. AreCounted first.rows.items second.rows.items c.push.new.self.items n) (sym sum) (subst (λ rs. AreCounted first.rows.items second.rows.items rs (c.loop-trip.len + (r.end - r.start))) (sym pushed) counted),
      ap (map (rows_in all)) pushed ∙ map_push (rows_in all) so_far r ∙ (λ i. c.loop-trip.invariant.1 i ++ c.range_of-range.ensures.rows i ∷ [])
          ∙ sym (ap (map g) (take_more c.args.trips.now c.loop-trip.trip-index _ (omega (arith, c.loop-trip-test.true))) ∙ map_push g (take c.loop-trip.trip-index c.args.trips.now) _),
    )

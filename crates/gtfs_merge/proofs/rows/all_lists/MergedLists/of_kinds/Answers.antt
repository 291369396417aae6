use Rattle.std.proofs.Common.{◌≡◌, ◌∙◌, ap, map, refl}
use Rattle.gtfs_merge.specs.MergedDepartures.{AreFew}
use Rattle.gtfs_merge.specs.MergedLists.{joined_stop_times}
use Rattle.gtfs_merge.specs.MergedSides.{content_a, content_b}
use Rattle.gtfs_merge.specs.TripRows.{entry_trip}
use Rattle.gtfs_merge.specs.declared.kind.Kind.{Kind}
use Rattle.gtfs_merge.specs.declared.rows.all_lists.MergedLists.{MergedLists}
use Rattle.gtfs_merge.proofs.Few.{few-enough}
use Rattle.gtfs_merge.proofs.MergedFeed.{content-is, make-a-feed}
use Rattle.gtfs_merge.proofs.TripsInTurn.{in-turn-from, trips-there}
use Rattle.gtfs_merge.proofs.rows.all_lists.MergedLists.of_kinds.Goals as goal

pub returns : goal.returns
returns c =
    let sides = c.args.sides.now in
    let k = c.args.kinds in
    let hs = c.in_ok-headsigns.headsigns in
    let l : MergedLists = record {
      rows = c.in_ok-rows.rows;
      transfers = c.in_ok-transfers.transfers;
      frequencies = c.in_ok-frequencies.frequencies;
      headsigns = hs;
      stops = c.into_stop_numbers-stops.result;
      trips = c.in_ok-trips.trips;
    } in
    let trips : l.trips.items ≡ map entry_trip k.trips.rows = c.in_ok-trips.ensures ∙ ap (map entry_trip) (c.rows.ensures ∙ ap (λ m. m.trips.rows) c.kinds.view_is) in
    let stops : l.stops ≡ k.stops.numbers = c.into_stop_numbers-stops.ensures in
    let stand = in-turn-from sides k.stops.numbers hs k.trips.rows l stops refl trips in
    let stop_times = joined_stop_times l sides.a.now.stop_times sides.b.now.stop_times in
    let few : (j : Kind) → AreFew j (content_a sides) (content_b sides) = λ j. few-enough j (content_a sides) (content_b sides) (c.soundness.ensures.few j) in
    record {
      trips = trips-there sides c.soundness.ensures.a c.soundness.ensures.b k c.requires.kinds l.trips.items trips;
      sound = make-a-feed sides c.soundness.ensures.a c.soundness.ensures.b few c.requires.zone k c.requires.kinds hs c.in_ok-headsigns.ensures
          l.rows c.in_ok-rows.ensures stop_times stand l.frequencies c.in_ok-frequencies.ensures l.transfers c.in_ok-transfers.ensures;
      content = content-is sides c.soundness.ensures.a c.soundness.ensures.b few c.requires.zone k c.requires.kinds hs c.in_ok-headsigns.ensures
          l.rows c.in_ok-rows.ensures stop_times stand l.frequencies c.in_ok-frequencies.ensures l.transfers c.in_ok-transfers.ensures;
    }

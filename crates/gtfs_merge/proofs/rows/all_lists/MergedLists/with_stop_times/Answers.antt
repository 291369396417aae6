use Rattle.std.proofs.Common.{◌≡◌, ◌∙◌, map}
use Rattle.gtfs_stop_times.specs.StopTimesByTrip.{in_turn}
use Rattle.gtfs_stop_times.specs.JoinedStopTimes.{trip_rows}
use Rattle.gtfs_stop_times.specs.RenumberedRows.{renumbered_row}
use Rattle.gtfs_merge.specs.MergedLists.{joined_stop_times, parts_with}
use Rattle.gtfs_merge.specs.TripRows.{with_numbers}
use Rattle.gtfs_merge.proofs.rows.all_lists.MergedLists.with_stop_times.Goals as goal

pub returns : goal.returns
returns c =
    let l = c.args.self in
    let first : c.renumbered-first.result ≡ with_numbers l.stops.a l.headsigns.a c.args.first =
    λ i. record {
      rows = (c.renumbered-first.ensures.rows ∙ (λ j. map (renumbered_row (c.of.ensures j) (c.numbers.ensures j)) c.args.first.rows)) i;
      starts = c.renumbered-first.ensures.starts i;
    } in
    let second : c.renumbered-second.result ≡ with_numbers l.stops.b l.headsigns.b c.args.second =
    λ i. record {
      rows = (c.renumbered-second.ensures.rows ∙ (λ j. map (renumbered_row (c.of-2.ensures j) (c.numbers-2.ensures j)) c.args.second.rows)) i;
      starts = c.renumbered-second.ensures.starts i;
    } in
    let stop_times : c.in_ok-stop_times.stop_times ≡ joined_stop_times l c.args.first c.args.second =
    c.in_ok-stop_times.ensures ∙ (λ i. in_turn (map (trip_rows (first i) (second i)) (c.deref.ensures.value i))) in
    c.with_lists.ensures ∙ (λ i. parts_with l.rows l.transfers (stop_times i) l.frequencies (c.into_texts.ensures i))

use Rattle.std.proofs.Common.{◌≡◌, ◌<◌, ◌∙◌, Some, length, sym, ap, subst, unwrap_or, []}
use Rattle.std.specs.Prelude.{not, slice_get}
use Rattle.std.proofs.lemmas.Option.{slice_get-get_or}
use Rattle.gtfs_rows.proofs.NumberFacts.{trip_route}
use Rattle.gtfs_rows.proofs.TripFacts.{periods}
use Rattle.gtfs_board.specs.ShownTrips.{mark_if}
use Rattle.gtfs_board.proofs.ShownRows.{periods_move, shown_rows, stop_within}
use Rattle.gtfs_board.proofs.showing.departure_of.Goals as goal

pub stop_id-requires : goal.stop_id-requires
stop_id-requires c =
    let p = c.args.feed.now in
    let n = c.args.candidate.now.trip in
    let k = c.args.candidate.now.row in
    let rs = c.trip_rows.result.now in
    let r = c.index-trip_rows-candidate.result in
    let inside : k < length rs = subst (λ xs. k < length xs) (ap (λ o. unwrap_or o []) c.trip_rows.ensures) c.requires.row in
    let at : slice_get rs k ≡ Some r = slice_get-get_or rs k r inside ∙ ap Some (sym c.index-trip_rows-candidate.is) in
    (stop_within p c.soundness.ensures n rs k r c.trip_rows.ensures at).0

pub route_by_number-requires : goal.route_by_number-requires
route_by_number-requires c = trip_route c.args.feed.now c.soundness.ensures c.args.candidate.now.trip c.trip_by_number-trip.result.now c.trip_by_number-trip.ensures

pub headsign_of-requires : goal.headsign_of-requires
headsign_of-requires c =
    let p = c.args.feed.now in
    let n = c.args.candidate.now.trip in
    let k = c.args.candidate.now.row in
    let rs = c.trip_rows.result.now in
    let r = c.index-trip_rows-candidate.result in
    let inside : k < length rs = subst (λ xs. k < length xs) (ap (λ o. unwrap_or o []) c.trip_rows.ensures) c.requires.row in
    let at : slice_get rs k ≡ Some r = slice_get-get_or rs k r inside ∙ ap Some (sym c.index-trip_rows-candidate.is) in
    (stop_within p c.soundness.ensures n rs k r c.trip_rows.ensures at).1

pub has_inexact-requires-clause-apart : goal.has_inexact-requires-clause-apart
has_inexact-requires-clause-apart c = periods c.args.feed.now c.soundness.ensures c.args.candidate.now.trip c.trip_frequencies.result.now c.trip_frequencies.ensures

pub has_inexact-requires-clause-moves : goal.has_inexact-requires-clause-moves
has_inexact-requires-clause-moves c =
    periods_move c.args.feed.now c.soundness.ensures c.args.candidate.now.trip c.trip_by_number-trip.result.now c.trip_rows.result.now c.trip_frequencies.result.now
    c.trip_by_number-trip.ensures c.trip_rows.ensures c.trip_frequencies.ensures

pub returns-clause-listed : goal.returns-clause-listed
returns-clause-listed c =
    let p = c.args.feed.now in
    let k = c.args.candidate.now.row in
    let rs = c.trip_rows.result.now in
    let r = c.index-trip_rows-candidate.result in
    let inside : k < length rs = subst (λ xs. k < length xs) (ap (λ o. unwrap_or o []) c.trip_rows.ensures) c.requires.row in
    let at : slice_get rs k ≡ Some r = slice_get-get_or rs k r inside ∙ ap Some (sym c.index-trip_rows-candidate.is) in
    shown_rows p c.soundness.ensures c.args.candidate.now c.trip_by_number-trip.result.now rs c.trip_frequencies.result.now r c.route_by_number.result.now _
    c.trip_by_number-trip.ensures c.trip_rows.ensures c.trip_frequencies.ensures at c.route_by_number.ensures
    c.key_of.ensures.key c.stop_id.ensures c.name_of.ensures c.headsign_of.ensures
    (c.new.ensures ∙ (λ i. mark_if (c.has_inexact.ensures i) (not (c.is_timed.ensures i))))

use Rattle.std.proofs.Common.{◌≡◌, ◌∙◌, ◌++◌, ap, append-nil, map}
use Rattle.std.specs.List.{list_any}
use Rattle.std.proofs.lemmas.Result.{IfOk-weaker}
use Rattle.gtfs_stop_times.specs.StopTimesByTrip.{is_at, items_in}
use Rattle.gtfs_table.specs.FieldOffsets.{parts}
use Rattle.gtfs_stop_times.proofs.MarkedTrips.{in-ranges-marked, in-turn-marked}
use Rattle.gtfs_stop_times.proofs.by_trip.StopTimesByTrip.trips_at.Goals as goal

pub returns-in_ok-marks-in-InTurn : goal.returns-in_ok-marks-in-InTurn
returns-in_ok-marks-in-InTurn c =
    let k = c.self.inside in
    let t = c.args.self.now in
    let f = is_at c.args.stops.now in
    let marks = c.deref-in-InTurn.result.now in
    let are : marks ≡ map f k.rows.items =
    c.deref-in-InTurn.ensures.value ∙ c.in_ok-marks-in-InTurn.ensures ∙ ap (map f) (append-nil c.deref.result.now ∙ c.deref.ensures.value) in
    let all = in-turn-marked f k.rows.items k.places t c.self.view_is marks c.in-InTurn.starts c.in-InTurn.is are in
    IfOk-weaker c.marked_in_turn.result
    (λ trips. trips.items ≡ map (list_any (λ mark. mark)) (parts c.deref-in-InTurn-2.result.now marks))
    (λ trips. trips.items ≡ map (list_any f) (parts t.starts t.rows))
    (λ trips same. same ∙ ap (λ starts. map (list_any (λ mark. mark)) (parts starts marks)) c.deref-in-InTurn-2.ensures.value ∙ all) c.marked_in_turn.ensures

pub returns-in_ok-marks-in-Anywhere : goal.returns-in_ok-marks-in-Anywhere
returns-in_ok-marks-in-Anywhere c =
    let k = c.self.inside in
    let t = c.args.self.now in
    let f = is_at c.args.stops.now in
    let marks = c.deref-in-Anywhere-3.result.now in
    let are : marks ≡ map f (k.rows.items ++ c.in-Anywhere.more.items) =
    c.deref-in-Anywhere-3.ensures.value ∙ c.in_ok-marks-in-Anywhere.ensures ∙ (λ i. map f (c.deref-in-Anywhere.ensures.value i ++ c.deref-in-Anywhere-2.ensures.value i)) in
    let all = in-ranges-marked f k.rows.items k.places t c.self.view_is marks c.in-Anywhere.more c.in-Anywhere.ranges c.in-Anywhere.field-2 c.in-Anywhere.is are in
    IfOk-weaker c.marked_in_ranges.result
    (λ trips. trips.items ≡ map (λ range. list_any (λ mark. mark) (items_in marks range)) c.deref-in-Anywhere-4.result.now)
    (λ trips. trips.items ≡ map (list_any f) (parts t.starts t.rows))
    (λ trips same. same ∙ ap (map (λ range. list_any (λ mark. mark) (items_in marks range))) c.deref-in-Anywhere-4.ensures.value ∙ all) c.marked_in_ranges.ensures

use Rattle.std.proofs.Common.{◌≡◌, ◌∙◌, ◌++◌, ℕ, List, ap, append-nil, map, subst}
use Rattle.gtfs_stop_times.specs.StopTimesByTrip.{items_in, rows_in}
use Rattle.gtfs_stop_times.specs.StopLists.{stops_in}
use Rattle.gtfs_stop_times.specs.declared.stop_row.StopRow.{StopRow}
use Rattle.gtfs_table.specs.FieldOffsets.{parts}
use Rattle.gtfs_stop_times.proofs.StopListFacts.{in-ranges-stops, in-turn-stops}
use Rattle.gtfs_stop_times.proofs.by_trip.StopTimesByTrip.stop_lists.Goals as goal

pub returns-in_ok-ranges-in-InTurn : goal.returns-in_ok-ranges-in-InTurn
returns-in_ok-ranges-in-InTurn c =
    let k = c.self.inside in
    let rows = k.rows.items in
    let ranges = c.in_ok-ranges-in-InTurn.ranges.items in
    let stops = c.in_ok-stops-in-InTurn.stops.items in
    let are : stops ≡ stops_in rows = c.in_ok-stops-in-InTurn.ensures ∙ ap stops_in (append-nil c.deref.result.now ∙ c.deref.ensures.value) in
    let cut : map (rows_in rows) ranges ≡ parts c.in-InTurn.starts.items rows =
    subst (λ (v : List StopRow × List ℕ). map (rows_in v.0) ranges ≡ parts v.1 v.0)
    (λ i. (c.deref-in-InTurn.ensures.value i, c.deref-in-InTurn-2.ensures.value i)) c.in_ok-ranges-in-InTurn.ensures.rows in
    c.at_ranges.ensures ∙ in-turn-stops rows k.places c.args.self.now c.self.view_is stops c.in-InTurn.starts ranges c.in-InTurn.is are cut

pub returns-in_ok-from_slice-in-Anywhere : goal.returns-in_ok-from_slice-in-Anywhere
returns-in_ok-from_slice-in-Anywhere c =
    let k = c.self.inside in
    let stops = c.in_ok-stops-in-Anywhere.stops.items in
    let are : stops ≡ stops_in (k.rows.items ++ c.in-Anywhere.more.items) =
    c.in_ok-stops-in-Anywhere.ensures ∙ (λ i. stops_in (c.deref-in-Anywhere.ensures.value i ++ c.deref-in-Anywhere-2.ensures.value i)) in
    c.at_ranges-in-Anywhere.ensures
    ∙ ap (map (items_in stops)) (c.in_ok-from_slice-in-Anywhere.ensures.items ∙ c.deref-in-Anywhere-3.ensures.value)
    ∙ in-ranges-stops k.rows.items k.places c.args.self.now c.self.view_is stops c.in-Anywhere.more c.in-Anywhere.ranges c.in-Anywhere.field-2 c.in-Anywhere.is are

use Rattle.std.proofs.Common.{◌∙◌, ap, map, subst, sym}
use Rattle.gtfs_stop_times.specs.StopTimesByTrip.{AreSoundPlaces, at_places}
use Rattle.gtfs_stop_times.specs.RenumberedRows.{renumbered_row}
use Rattle.gtfs_stop_times.proofs.RangeFacts.{counted-after, rows-become, starts-stay}
use Rattle.gtfs_stop_times.proofs.by_trip.StopTimesByTrip.renumbered.Goals as goal

pub invariant_of-result : goal.invariant_of-result
invariant_of-result c =
    let f = renumbered_row c.args.stops.now c.args.headsigns.now in
    let rows = c.self.inside.rows.items in
    counted-after f rows c.in-Anywhere.more.items _ _ c.renumber.ensures c.renumber-in-Anywhere.ensures c.in-Anywhere.ranges.items c.in-Anywhere.len
    (subst (AreSoundPlaces rows) c.in-Anywhere.is c.self.invariant)

pub returns-in-Anywhere-clause-rows : goal.returns-in-Anywhere-clause-rows
returns-in-Anywhere-clause-rows c =
    let f = renumbered_row c.args.stops.now c.args.headsigns.now in
    let rows = c.self.inside.rows.items in
    rows-become f rows c.in-Anywhere.more.items _ _ c.renumber.ensures c.renumber-in-Anywhere.ensures c.in-Anywhere.ranges.items
    ∙ ap (λ p. map f (at_places rows p).rows) (sym c.in-Anywhere.is) ∙ ap (λ t. map f t.rows) c.self.view_is

pub returns-in-Anywhere-clause-starts : goal.returns-in-Anywhere-clause-starts
returns-in-Anywhere-clause-starts c =
    let f = renumbered_row c.args.stops.now c.args.headsigns.now in
    let rows = c.self.inside.rows.items in
    starts-stay f rows c.in-Anywhere.more.items _ _ c.renumber.ensures c.renumber-in-Anywhere.ensures c.in-Anywhere.ranges.items
    ∙ ap (λ p. (at_places rows p).starts) (sym c.in-Anywhere.is) ∙ ap (λ t. t.starts) c.self.view_is

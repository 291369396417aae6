use Rattle.std.proofs.Common.{◌∙◌, ◌++◌, Some, arith, ap, subst, sym}
use Rattle.gtfs_stop_times.specs.StopTimesByTrip.{AreSoundPlaces, rows_in}
use Rattle.gtfs_stop_times.proofs.Places.{in-ranges, rows-at}
use Rattle.gtfs_stop_times.proofs.by_trip.StopTimesByTrip.of_trip.Goals as goal

pub index-requires : goal.index-requires
index-requires c =
    let within = in-ranges c.self.inside.rows.items _ c.in-Anywhere.more c.in-Anywhere.ranges c.in-Anywhere.field-2 c.in-Anywhere.is _ c.self.view_is c.args.trip c.requires.within in
    omega (arith, within, c.in-Anywhere.ranges.ok.0)

pub rows_in-requires-clause-within : goal.rows_in-requires-clause-within
rows_in-requires-clause-within c =
    let rows = c.self.inside.rows.items in
    let sound = subst (AreSoundPlaces rows) c.in-Anywhere.is c.self.invariant in
    let within = in-ranges rows _ c.in-Anywhere.more c.in-Anywhere.ranges c.in-Anywhere.field-2 c.in-Anywhere.is _ c.self.view_is c.args.trip c.requires.within in
    let here = sound.within c.args.trip c.index.result.now within in
    rw (c.deref-in-Anywhere.ensures.value, c.deref-in-Anywhere-2.ensures.value, c.index.ensures) here

pub rows_in-requires-clause-unbroken : goal.rows_in-requires-clause-unbroken
rows_in-requires-clause-unbroken c =
    let rows = c.self.inside.rows.items in
    let sound = subst (AreSoundPlaces rows) c.in-Anywhere.is c.self.invariant in
    let within = in-ranges rows _ c.in-Anywhere.more c.in-Anywhere.ranges c.in-Anywhere.field-2 c.in-Anywhere.is _ c.self.view_is c.args.trip c.requires.within in
    let here = sound.unbroken c.args.trip c.index.result.now within in
    rw (c.deref-in-Anywhere.ensures.value, c.index.ensures) here

pub returns-in-Anywhere : goal.returns-in-Anywhere
returns-in-Anywhere c =
    let rows = c.self.inside.rows.items in
    let more = c.in-Anywhere.more.items in
    rows-at rows _ c.in-Anywhere.more c.in-Anywhere.ranges c.in-Anywhere.field-2 c.in-Anywhere.is _ c.self.view_is c.args.trip c.requires.within c.index.result.now
    ∙ ap Some (ap (rows_in (rows ++ more)) (sym c.index.ensures) ∙ (λ i. rows_in (sym c.deref-in-Anywhere.ensures.value i ++ sym c.deref-in-Anywhere-2.ensures.value i) c.index.result.now) ∙ sym c.rows_in.ensures)

use Rattle.std.proofs.Common.{◌∙◌, ap, length, subst, sym}
use Rattle.gtfs_stop_times.specs.StopTimesByTrip.{AreSoundPlaces, at_places}
use Rattle.gtfs_stop_times.proofs.by_trip.StopTimesByTrip.len.Goals as goal

pub returns-in-Anywhere : goal.returns-in-Anywhere
returns-in-Anywhere c =
    let rows = c.self.inside.rows.items in
    let sound = subst (AreSoundPlaces rows) c.in-Anywhere.is c.self.invariant in
    sym sound.counted ∙ ap (λ p. length (at_places rows p).rows) (sym c.in-Anywhere.is) ∙ ap (λ t. length t.rows) c.self.view_is

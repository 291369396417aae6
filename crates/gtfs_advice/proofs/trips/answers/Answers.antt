use Rattle.std.proofs.Common.{◌∷◌, [], ◌∙◌, ap, sym}
use Rattle.gtfs_advice.specs.declared.code.Code.TheVariants as code
use Rattle.gtfs_advice.specs.TextFaults.{is_garbled_if_given}
use Rattle.gtfs_advice.proofs.TripTelling.{goes_along, headsign_of}
use Rattle.gtfs_advice.proofs.trips.answers.Goals as goal

pub returns : goal.returns
returns c t there is_repeat =
    let p = c.args.feed.now in
    let n = c.args.trip.0 in
    let along = goes_along p c.soundness.ensures n c.requires t there c.trip_rows.result.now c.trip_rows.ensures in
    let headsign = headsign_of p c.soundness.ensures n c.requires t there c.trip_by_number-row.result.now c.trip_by_number-row.ensures in
    let lacks = c.lacks_headsign.ensures p t along headsign in
    let garbled = c.has_garbled_headsign.ensures ∙ ap is_garbled_if_given (sym headsign) in
    λ i. (code.TripWithoutHeadsign, lacks i) ∷ (code.TripAsAnother, is_repeat i) ∷ (code.GarbledTrip, garbled i) ∷ []

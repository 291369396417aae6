use Rattle.std.proofs.Common.{◌∷◌, []}
use Rattle.gtfs_advice.specs.declared.code.Code.TheVariants as code
use Rattle.gtfs_advice.proofs.TripTelling.{goes_along}
use Rattle.gtfs_advice.proofs.stop_times.answers.Goals as goal

pub returns : goal.returns
returns c t there =
    let p = c.args.feed.now in
    let along = goes_along p c.soundness.ensures c.args.trip.0 c.requires.within t there c.trip_rows-rows.result.now c.trip_rows-rows.ensures in
    let twice = c.stops_twice_in_a_row.ensures p t along in
    let six = c.has_six_stops_at_one_moment.ensures p t along in
    let fast = c.is_faster_than_a_train.ensures p t along c.requires.latitudes in
    let closed = c.has_closed_stop.ensures p t along in
    let long = c.is_longer_than_a_day.ensures p t along in
    λ i. (code.StopTwiceInARow, twice i) ∷ (code.SixStopsAtOneMoment, six i) ∷ (code.FasterThanATrain, fast i) ∷ (code.NobodyGetsOnOrOff, closed i) ∷ (code.LongerThanADay, long i) ∷ []

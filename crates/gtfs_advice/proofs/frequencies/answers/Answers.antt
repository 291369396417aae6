use Rattle.std.proofs.Common.{◌∷◌, []}
use Rattle.gtfs_advice.specs.declared.code.Code.TheVariants as code
use Rattle.gtfs_advice.proofs.TripTelling.{periods_of}
use Rattle.gtfs_advice.proofs.frequencies.answers.Goals as goal

pub returns : goal.returns
returns c t there =
    let are = periods_of c.args.feed.now c.soundness.ensures c.args.trip.0 c.requires t there c.trip_frequencies-periods.result.now c.trip_frequencies-periods.ensures in
    λ i. (code.PeriodOfOneRun, c.has_period_of_one_run.ensures t are i) ∷ []

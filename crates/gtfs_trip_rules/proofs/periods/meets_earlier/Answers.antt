use Rattle.std.proofs.lemmas.Result.{on_ok_weaker}
use Rattle.std.proofs.Common.{◌∙◌, ap}
use Rattle.std.specs.Prelude.{◌||◌}
use Rattle.gtfs_trip_rules.specs.CoveredTrips.{covers_trip}
use Rattle.gtfs_trip_rules.specs.FrequencyPeriods.{meets_one}
use Rattle.gtfs_trip_rules.proofs.CoveredTripFacts.{covered_more, still_of_trips}
use Rattle.gtfs_trip_rules.proofs.periods.meets_earlier.Goals as goal

pub returns-in_ok-number-in-Some-clause-grown : goal.returns-in_ok-number-in-Some-clause-grown
returns-in_ok-number-in-Some-clause-grown c = on_ok_weaker c.meet.result (λ grown. λ trip start end.
    let old = c.args.trips.now.numbers in
    let spans = c.args.covered.now.spans in
    covered_more old c.number.new.self.numbers c.in-Some.trip.now c.in_ok-number-in-Some.field-0 c.in_ok-number-in-Some.ensures c.number.new.self.distinct spans c.requires
    c.meet.new.self.spans c.in-Some.start c.in-Some.end grown trip start end
    ∙ ap (λ o. covers_trip old spans trip start end || meets_one o trip start end) c.in-Some.ensures) c.meet.ensures.grown

pub returns-in_ok-number-in-Some-clause-of_trips : goal.returns-in_ok-number-in-Some-clause-of_trips
returns-in_ok-number-in-Some-clause-of_trips c = on_ok_weaker c.meet.result (λ grown.
    still_of_trips c.args.trips.now.numbers c.number.new.self.numbers c.in-Some.trip.now c.in_ok-number-in-Some.field-0 c.in_ok-number-in-Some.ensures c.number.new.self.distinct
    c.args.covered.now.spans c.requires c.meet.new.self.spans c.in-Some.start c.in-Some.end grown) c.meet.ensures.grown

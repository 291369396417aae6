use Rattle.std.proofs.Common.{◌∙◌, ap, sym}
use Rattle.std.specs.Prelude.{min}
use Rattle.gtfs_schema.specs.steps.Ids.{ids_of}
use Rattle.gtfs_trip_rules.specs.TripCounts.{count_of}
use Rattle.gtfs_trip_rules.specs.TripNotes.{times_noted}
use Rattle.gtfs_trip_rules.proofs.TripCountFacts.{trip_counted}
use Rattle.gtfs_trip_rules.proofs.trips.notes.TripNotes.counts.Goals as goal

pub returns-clause-counts : goal.returns-clause-counts
returns-clause-counts c = λ trip.
    let trips = ids_of c.self.inside.trips.now in
    ap (λ v. count_of v.trips c.self.inside.numbers c.deref.result.now trip) (sym c.self.view_is)
    ∙ trip_counted trips c.self.inside.numbers c.self.inside.names.items trip c.self.inside.rows c.self.invariant.numbered c.deref.result.now (rw c.deref.ensures.value c.self.invariant.counted)
    ∙ ap (λ v. min (times_noted v.notes trip) 2) c.self.view_is

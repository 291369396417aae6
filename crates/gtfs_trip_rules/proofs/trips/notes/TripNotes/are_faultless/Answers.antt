use Rattle.std.proofs.Common.{◌∙◌, ap, sym}
use Rattle.gtfs_schema.specs.steps.Ids.{ids_of}
use Rattle.gtfs_trip_rules.proofs.TogetherRows.{noted_faultless}
use Rattle.gtfs_trip_rules.proofs.trips.notes.TripNotes.are_faultless.Goals as goal

pub returns-then-self : goal.returns-then-self
returns-then-self c = λ same d notes.
    let n = c.self.inside in
    noted_faultless (ids_of n.trips.now) n.numbers n.names.items n.counts.items n.are_sequenced n.judge n.rows c.self.invariant c.if-self.true
    (sym c.are_faultless.ensures ∙ same) d (ap (λ v. v.notes) c.self.view_is ∙ notes)

use Rattle.std.proofs.Common.{◌∙◌, ap, refl, ℕ, Option}
use Rattle.std.specs.Prelude.{codes, nat_lt}
use Rattle.gtfs_schema.specs.steps.Ids.{ids_of}
use Rattle.gtfs_trip_rules.specs.TripCounts.{are_few, count_of}
use Rattle.gtfs_table.specs.Tables.{field_under}
use Rattle.gtfs_table.specs.declared.file.File.TheVariants as file
use Rattle.gtfs_table.proofs.RowFacts.{all_taken, turn}
use Rattle.gtfs_schema.specs.declared.code.Code.TheVariants as code
use Rattle.gtfs_schema.specs.steps.KeptColumns.{at_column}
use Rattle.gtfs_schema.specs.TripRules.{has_few_rows}
use Rattle.gtfs_schema.proofs.RowFacts.{reported_all, reported_more, reported_none}
use Rattle.gtfs_schema.proofs.RuleFacts.{row_reported, silent_column}
use Rattle.gtfs_schema.proofs.StepFacts.{reports_rule}
use Rattle.gtfs_trip_rules.specs.RowsById.{text_under}
use Rattle.gtfs_trip_rules.specs.TripNotes.{times_noted}
use Rattle.gtfs_trip_rules.proofs.TripCountFacts.{few_of_two, few_rows}
use Rattle.gtfs_trip_rules.proofs.trips.counts.report_counts.Goals as goal

pub loop-row-init : goal.loop-row-init
loop-row-init c = record {
  reported = reported_none c.args.tables.now (at_column code.W06 file.Trips (codes "trip_id")) c.args.found.now;
  few = λ trip. ap (λ m. nat_lt m 2) (ap (λ ids. count_of ids c.counts-counts.result.numbers.now c.counts-counts.result.counts.now trip) c.counts-counts.ensures.trips ∙ c.counts-counts.ensures.counts trip) ∙ few_of_two (times_noted c.args.notes.now.notes trip);
}

pub loop-row-preserved : goal.loop-row-preserved
loop-row-preserved c =
    let d = c.args.tables.now in
    let counts = c.loop-row.counts in
    let index = c.column-trip_id.result in
    let few = are_few (ids_of counts.trips.ids.now) counts.numbers.now counts.counts.now in
    let rule = few_rows d few (text_under d file.Trips index) (λ n. ap (λ (i : Option ℕ). text_under d file.Trips i n) c.column-trip_id.ensures)
    (λ trip. c.loop-row.invariant.few trip ∙ ap (λ notes. nat_lt (times_noted notes trip) 2) c.requires) in
    let t = turn d file.Trips _ c.loop-row.yielded _ (c.into_iter-row-iterator.ensures.into_iter_gives ∙ c.rows-row-items.ensures) c.loop-row.yielded_by c.in-Some.row c.in-Some.record _ c.in-Some.ensures.steps in
    let text = c.value.ensures ∙ ap (λ r. field_under r index) t.record_is in
    let same = c.has_few_rows.ensures in
    record {
      reported = reported_more d (at_column code.W06 file.Trips (codes "trip_id")) c.loop-row.yielded c.in-Some.row _ _ _ _ c.loop-row.invariant.reported
          (row_reported d code.W06 file.Trips (codes "trip_id") _ rule c.in-Some.row _ _ t.is_row (rw (same.few, text) at c.in_ok-report_if.ensures));
      few = λ trip. (λ i. are_few (ids_of (same.trips i)) (same.numbers i) (same.counts i) trip) ∙ c.loop-row.invariant.few trip;
    }

pub returns : goal.returns
returns c =
    let d = c.args.tables.now in
    let counts = c.loop-row.counts in
    let few = are_few (ids_of counts.trips.ids.now) counts.numbers.now counts.counts.now in
    let rule = few_rows d few (text_under d file.Trips c.column-trip_id.result) (λ n. ap (λ (i : Option ℕ). text_under d file.Trips i n) c.column-trip_id.ensures)
    (λ trip. c.loop-row.invariant.few trip ∙ ap (λ notes. nat_lt (times_noted notes trip) 2) c.requires) in
    let all = all_taken d file.Trips _ c.loop-row.yielded _ (c.into_iter-row-iterator.ensures.into_iter_gives ∙ c.rows-row-items.ensures) c.loop-row.yielded_by c.in-None.ensures.steps.0 in
    reports_rule d code.W06 file.Trips "trip_id" has_few_rows refl (λ y n name. refl) _ _
    (reported_all d file.Trips (at_column code.W06 file.Trips (codes "trip_id")) _ _ (silent_column d code.W06 file.Trips (codes "trip_id") _ rule) (rw all at c.loop-row.invariant.reported))

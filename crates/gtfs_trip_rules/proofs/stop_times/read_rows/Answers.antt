use Rattle.std.proofs.Common.{◌∙◌, ap, arith, subst, sym}
use Rattle.gtfs_schema.specs.steps.Ids.{ids_of}
use Rattle.gtfs_trip_rules.specs.KeptRows.{AllKeep}
use Rattle.gtfs_table.specs.declared.file.File.TheVariants as file
use Rattle.gtfs_table.proofs.RowFacts.{all_taken, turn}
use Rattle.gtfs_trip_rules.specs.StopTimePicks.{in_rows}
use Rattle.gtfs_trip_rules.specs.StopTimes.{AreStopTimeColumns}
use Rattle.gtfs_schema.proofs.RowFacts.{reported_all, reported_more, reported_none}
use Rattle.gtfs_trip_rules.proofs.StopTimePasses.{rows_reported, silent_rows}
use Rattle.gtfs_stop_times.specs.StopTimeOrder.{AreEarlier}
use Rattle.gtfs_trip_rules.proofs.EarlierRows.{before_more, earlier_rows}
use Rattle.gtfs_trip_rules.proofs.TripStopTimeFacts.{notes_more, trip_notes_read}
use Rattle.gtfs_trip_rules.proofs.stop_times.read_rows.Goals as goal

pub loop-row-init : goal.loop-row-init
loop-row-init c = record {
  named = c.new-named.ensures c.args.tables.now c.requires.ids c.requires.types;
  reported = reported_none c.args.tables.now in_rows c.args.found.now;
  trips = ap (λ v. v.trips) c.requires.none ∙ ap ids_of c.requires.ids.network.trips;
  notes = ap (λ v. v.notes) c.requires.none;
  kept = subst (AllKeep c.args.tables.now) (sym (ap (λ v. v.rows) c.requires.none)) (λ k d below. absurd (omega (arith, below)));
  earlier = λ n all. subst (AreEarlier n) (sym (ap (λ v. v.rows) c.requires.none)) (λ k d below. absurd (omega (arith, below)));
}

pub read_row-requires-clause-columns : goal.read_row-requires-clause-columns
read_row-requires-clause-columns c = subst (λ d. AreStopTimeColumns d c.of-columns.result) (sym c.of-columns.ensures.tables) c.of-columns.ensures

pub read_row-requires-clause-named : goal.read_row-requires-clause-named
read_row-requires-clause-named c = rw c.of-columns.ensures.tables c.loop-row.invariant.named

pub read_row-requires-clause-row : goal.read_row-requires-clause-row
read_row-requires-clause-row c =
    let t = turn c.args.tables.now file.StopTimes _ c.loop-row.yielded _ (c.into_iter-row-iterator.ensures.into_iter_gives ∙ c.rows-row-items.ensures) c.loop-row.yielded_by c.in-Some.row c.in-Some.record _ c.in-Some.ensures.steps in
    rw c.of-columns.ensures.tables t.is_row

pub read_row-requires-clause-fields : goal.read_row-requires-clause-fields
read_row-requires-clause-fields c =
    let t = turn c.args.tables.now file.StopTimes _ c.loop-row.yielded _ (c.into_iter-row-iterator.ensures.into_iter_gives ∙ c.rows-row-items.ensures) c.loop-row.yielded_by c.in-Some.row c.in-Some.record _ c.in-Some.ensures.steps in
    rw c.of-columns.ensures.tables t.record_is

pub read_row-requires-clause-earlier : goal.read_row-requires-clause-earlier
read_row-requires-clause-earlier c =
    let t = turn c.args.tables.now file.StopTimes _ c.loop-row.yielded _ (c.into_iter-row-iterator.ensures.into_iter_gives ∙ c.rows-row-items.ensures) c.loop-row.yielded_by c.in-Some.row c.in-Some.record _ c.in-Some.ensures.steps in
    c.loop-row.invariant.earlier c.in-Some.row (earlier_rows c.args.tables.now file.StopTimes c.loop-row.yielded _ c.in-Some.row c.in-Some.record t)

pub read_row-requires-clause-trips : goal.read_row-requires-clause-trips
read_row-requires-clause-trips c = rw c.of-columns.ensures.tables c.loop-row.invariant.trips

pub loop-row-preserved : goal.loop-row-preserved
loop-row-preserved c =
    let d = c.args.tables.now in
    let n = c.in-Some.row in
    let read = rw c.of-columns.ensures.tables at c.in_ok-read_row.ensures in
    record {
      named = read.named;
      reported = reported_more d in_rows c.loop-row.yielded n _ _ _ _ c.loop-row.invariant.reported read.reported;
      trips = read.trips ∙ c.loop-row.invariant.trips;
      notes = read.notes ∙ notes_more d c.loop-row.yielded n c.in-Some.record _ c.loop-row.invariant.notes;
      kept = read.kept c.loop-row.invariant.kept;
      earlier = before_more c.loop-row.yielded n c.in-Some.record _ read.earlier;
    }

pub returns-clause-reported : goal.returns-clause-reported
returns-clause-reported c =
    let d = c.args.tables.now in
    let silent = silent_rows d c.new-named.result (c.new-named.ensures d c.requires.ids c.requires.types) in
    let all = all_taken d file.StopTimes _ c.loop-row.yielded _ (c.into_iter-row-iterator.ensures.into_iter_gives ∙ c.rows-row-items.ensures) c.loop-row.yielded_by c.in-None.ensures.steps.0 in
    rows_reported d _ _ (reported_all d file.StopTimes in_rows _ _ silent (rw all at c.loop-row.invariant.reported))

pub returns-clause-notes : goal.returns-clause-notes
returns-clause-notes c =
    let d = c.args.tables.now in
    let all = all_taken d file.StopTimes _ c.loop-row.yielded _ (c.into_iter-row-iterator.ensures.into_iter_gives ∙ c.rows-row-items.ensures) c.loop-row.yielded_by c.in-None.ensures.steps.0 in
    (rw all at c.loop-row.invariant.notes) ∙ trip_notes_read d

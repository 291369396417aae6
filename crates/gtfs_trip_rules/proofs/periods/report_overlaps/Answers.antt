use Rattle.std.proofs.Common.{◌≡◌, ◌∙◌, ap}
use Rattle.std.specs.Prelude.{◌||◌}
use Rattle.gtfs_table.specs.Rows.{numbers}
use Rattle.gtfs_table.specs.declared.file.File.TheVariants as file
use Rattle.gtfs_table.proofs.RowFacts.{all_taken, turn}
use Rattle.gtfs_schema.specs.declared.code.Code.TheVariants as code
use Rattle.gtfs_schema.specs.PeriodRules.{overlaps_earlier}
use Rattle.gtfs_schema.specs.FieldValues.{if_there}
use Rattle.gtfs_schema.specs.steps.KeptColumns.{at_column}
use Rattle.gtfs_schema.proofs.RowFacts.{reported_all, reported_more, reported_none}
use Rattle.gtfs_schema.proofs.RuleFacts.{silent_column}
use Rattle.gtfs_trip_rules.specs.CoveredTrips.{covers_trip}
use Rattle.gtfs_trip_rules.specs.FrequencyPeriods.{meets_one, met_among, period_at, period_in}
use Rattle.gtfs_trip_rules.specs.PeriodSpans.{covers}
use Rattle.gtfs_trip_rules.proofs.PeriodFacts.{known_more, rule_asked, there_alike}
use Rattle.gtfs_trip_rules.proofs.PeriodReports.{at_rows, column, overlaps_reported, row_asked}
use Rattle.gtfs_trip_rules.proofs.periods.report_overlaps.Goals as goal

pub loop-row-init : goal.loop-row-init
loop-row-init c = record {
  reported = reported_none c.args.tables.now (at_column code.E19 file.Frequencies column) c.args.found.now;
  known = λ trip start end. ap (λ o. if_there o (λ n. covers c.new-covered.result.spans n start end)) (c.new-trips.ensures trip);
  of_trips = λ n start end past. c.new-covered.ensures n start end;
}

pub meets_earlier-requires : goal.meets_earlier-requires
meets_earlier-requires c = c.loop-row.invariant.of_trips

pub loop-row-preserved : goal.loop-row-preserved
loop-row-preserved c =
    let d = c.args.tables.now in
    let columns = c.new-columns.result in
    let taken = c.loop-row.yielded in
    let n = c.in-Some.row in
    let r = c.in-Some.record in
    let t = turn d file.Frequencies _ taken _ (c.into_iter-row-iterator.ensures.into_iter_gives ∙ c.rows-row-items.ensures) c.loop-row.yielded_by n r _ c.in-Some.ensures.steps in
    let own : period_at columns r ≡ period_in d n = ap (period_at columns) t.record_is ∙ c.new-columns.ensures n in
    let asked : c.in_ok-meets.meets ≡ overlaps_earlier d n =
    c.in_ok-meets.ensures.answer
    ∙ there_alike (period_at columns r) (λ p. covers_trip c.loop-row.trips.numbers c.loop-row.covered.spans p.0 p.1 p.2) (λ p. met_among d (numbers taken) p.0 p.1 p.2) (λ p. c.loop-row.invariant.known p.0 p.1 p.2)
    ∙ ap (λ o. if_there o (λ p. met_among d (numbers taken) p.0 p.1 p.2)) own
    ∙ rule_asked d taken n r _ t in
    record {
      reported = reported_more d (at_column code.E19 file.Frequencies column) taken n r _ _ _ c.loop-row.invariant.reported
          (row_asked d n c.in_ok-meets.meets _ _ t.is_row asked c.in_ok-report_if.ensures);
      known = λ trip start end.
          c.in_ok-meets.ensures.grown trip start end
          ∙ ap (λ b. b || meets_one (period_at columns r) trip start end) (c.loop-row.invariant.known trip start end)
          ∙ ap (λ o. met_among d (numbers taken) trip start end || meets_one o trip start end) own
          ∙ known_more d taken n r trip start end;
      of_trips = c.in_ok-meets.ensures.of_trips;
    }

pub returns : goal.returns
returns c =
    let d = c.args.tables.now in
    let all = all_taken d file.Frequencies _ c.loop-row.yielded _ (c.into_iter-row-iterator.ensures.into_iter_gives ∙ c.rows-row-items.ensures) c.loop-row.yielded_by c.in-None.ensures.steps.0 in
    overlaps_reported d _ _ (reported_all d file.Frequencies (at_column code.E19 file.Frequencies column) _ _
    (silent_column d code.E19 file.Frequencies column (overlaps_earlier d) (at_rows d)) (rw all at c.loop-row.invariant.reported))

use Rattle.std.proofs.Common.{◌≡◌, ◌∙◌, ◌∷◌, ◌+◌, ◌<◌, ap, arith, drop, get_or, length, reverse, subst, sym, take}
use Rattle.std.proofs.lemmas.Option.{get_or_from_slice_get}
use Rattle.gtfs_schema.specs.steps.FoundProblems.{Reports}
use Rattle.gtfs_trip_rules.specs.JudgedTrips.{is_end_untimed, is_late, repeats_last, AddsOfRow, Judges}
use Rattle.gtfs_trip_rules.specs.TripOrder.{rows_before}
use Rattle.gtfs_trip_rules.proofs.JudgedRows.{all_told, told_more}
use Rattle.gtfs_trip_rules.proofs.SplitLists.{before_more}
use Rattle.gtfs_trip_rules.proofs.TripReports.{seen, seen_none}
use Rattle.gtfs_trip_rules.proofs.trips.order.report_rows.Goals as goal

pub loop-at-init : goal.loop-at-init
loop-at-init c = record { judged = c.new-judge.ensures; reported = λ d o. seen_none d c.args.found.now }

pub loop-at-preserved : goal.loop-at-preserved
loop-at-preserved c =
    let rows = c.args.rows.now in
    let at = c.loop-at.at in
    let row = c.get-row.result in
    let last = c.loop-at.judge.last in
    let below : at < length rows = omega (arith, c.loop-at-test.true, c.len-at-end.ensures) in
    let here : row ≡ get_or rows at row = sym (get_or_from_slice_get rows at row row c.get-row.ensures) in
    let adds = rw c.is_untimed_end.ensures at c.in_ok-report_row.ensures in
    record {
      judged = subst (Judges c.note.new.self) (ap (λ r. r ∷ reverse (take at rows)) here ∙ sym (before_more rows at row below))
          (c.note.ensures (reverse (take at rows)) c.loop-at.invariant.judged (λ no. cc no));
      reported = λ d o.
          told_more d o.number o.name rows o.numbered o.order at row below last c.loop-at.invariant.judged.last c.args.found.now c.loop-at.found c.report_row.new.found (c.loop-at.invariant.reported d o)
          (subst (λ r. AddsOfRow r (repeats_last last r) (is_end_untimed last r (drop (at + 1) rows)) (is_late last r) c.loop-at.found c.report_row.new.found) here adds);
    }

pub returns : goal.returns
returns c = λ d o.
    let rows = c.args.rows.now in
    let all : c.loop-at.at ≡ length rows = omega (arith, c.loop-at-test.false, c.loop-at.auto.at-end, c.len-at-end.ensures) in
    all_told d o.number o.name rows o.numbered o.order c.args.found.now c.loop-at.found
    (subst (λ n. Reports d (seen (rows_before o.name rows n)) c.args.found.now c.loop-at.found) all (c.loop-at.invariant.reported d o))

use Rattle.std.proofs.Common.{◌≡◌, ◌<◌, ◌≤◌, ◌+◌, ◌++◌, ◌∙◌, ◌&&◌, List, true, false, map, get_or, refl, sym, ap, subst}
use Rattle.std.specs.Prelude.{unwrap_or}
use Rattle.std.specs.List.{All}
use Rattle.std.proofs.lemmas.Bool.{and_parts}
use Rattle.std.proofs.lemmas.Option.{slice_get-get_or}
use Rattle.gtfs_field.proofs.ListFacts.{some_of}
use Rattle.gtfs_stop_times.specs.declared.stop_row.StopRow.{StopRow}
use Rattle.gtfs_stop_times.specs.RowTimes.{left_at}
use Rattle.gtfs_rows.specs.RowsInMemory.{stop_row_of, trip_of}
use Rattle.gtfs_rows.proofs.TripFacts.{periods}
use Rattle.gtfs_times.proofs.FilledContent.{sound-timed}
use Rattle.gtfs_times.specs.TimedRows.{timed_parts}
use Rattle.gtfs_runs.specs.Tallies.{tally}
use Rattle.gtfs_runs.specs.FlatEvents.{is_served, served_at}
use Rattle.gtfs_rows.specs.Runs.{allows_boarding, is_departure_row, is_not_last, is_timed}
use Rattle.gtfs_runs.proofs.RowEvents.{leaves_here, row_left, row_pushed}
use Rattle.gtfs_runs.proofs.Tallies.{kept, tally-append}
use Rattle.gtfs_runs.proofs.TimedTrips.{first_is, trip_times}
use Rattle.gtfs_runs.proofs.TripTimes.{periods_run}
use Rattle.gtfs_runs.proofs.flat.push_row.Goals as goal

pub leaves_place-requires-clause-stops : goal.leaves_place-requires-clause-stops
leaves_place-requires-clause-stops c = c.requires.times.stops

pub leaves_place-requires-clause-ascend : goal.leaves_place-requires-clause-ascend
leaves_place-requires-clause-ascend c = c.requires.times.ascend

pub returns-then-not-leaves_place : goal.returns-then-not-leaves_place
returns-then-not-leaves_place c = λ times s service e place at.
    let p = timed_parts times c.args.feed.now in
    let sound = sound-timed c.args.feed.now c.soundness.ensures times in
    let row = c.trip_by_number-row.result.now in
    let rows : List StopRow = c.args.rows.now in
    let fs = c.trip_frequencies-periods.result.now in
    let n = c.args.position in
    let d : StopRow = some_of rows n c.requires.within in
    let x : StopRow = get_or rows n d in
    let stays : leaves_here p s row rows fs x ≡ false =
    ap (λ flags. is_departure_row (trip_of p row rows fs) (stop_row_of p x) && get_or flags x.stop_id.0 false) (sym place)
    ∙ sym (c.leaves_place.ensures p row fs d) ∙ c.if-not-leaves_place.true in
    kept (tally (is_served service e) c.args.events.now.items) _
    (row_left p sound s c.args.trip.0 row rows fs c.trip_by_number-row.ensures at c.trip_frequencies-periods.ensures
    (trip_times p sound c.args.trip.0 rows at).stops n x (slice_get-get_or rows n d c.requires.within) service e stays)

pub starts-requires-clause-moves : goal.starts-requires-clause-moves
starts-requires-clause-moves c = λ k d h.
    (periods_run c.args.feed.now c.soundness.ensures c.args.trip.0 c.trip_frequencies-periods.result.now c.trip_frequencies-periods.ensures k d h).moves

pub starts-requires-clause-apart : goal.starts-requires-clause-apart
starts-requires-clause-apart c = periods c.args.feed.now c.soundness.ensures c.args.trip.0 c.trip_frequencies-periods.result.now c.trip_frequencies-periods.ensures

pub push_runs-requires-clause-early : goal.push_runs-requires-clause-early
push_runs-requires-clause-early c = subst (All (λ r. r < 7_200_000)) (sym c.as_slice.ensures.value) c.in_ok-runs.ensures.early

pub push_runs-requires-clause-ascend : goal.push_runs-requires-clause-ascend
push_runs-requires-clause-ascend c = λ d.
    let p = c.args.feed.now in
    let row = c.trip_by_number-row.result.now in
    let rows : List StopRow = c.args.rows.now in
    let fs = c.trip_frequencies-periods.result.now in
    let n = c.args.position in
    let x : StopRow = get_or rows n d in
    let t = trip_of p row rows fs in
    let r = stop_row_of p x in
    let boards = sym (c.leaves_place.ensures p row fs d) ∙ c.if-not-leaves_place.false in
    let departs = and_parts (is_timed r && is_not_last t r) (allows_boarding r) (and_parts (is_departure_row t r) (get_or c.args.place.now x.stop_id.0 false) boards).0 in
    subst (λ a. a ≤ unwrap_or (left_at x) 0) (first_is rows n d c.requires.within)
    (c.requires.times.from n d c.requires.within (and_parts (is_timed r) (is_not_last t r) departs.0).0)

pub returns : goal.returns
returns c = λ times s service e place at.
    let p = timed_parts times c.args.feed.now in
    let sound = sound-timed c.args.feed.now c.soundness.ensures times in
    let row = c.trip_by_number-row.result.now in
    let rows : List StopRow = c.args.rows.now in
    let fs = c.trip_frequencies-periods.result.now in
    let n = c.args.position in
    let d : StopRow = some_of rows n c.requires.within in
    let x : StopRow = get_or rows n d in
    let boards : leaves_here p s row rows fs x ≡ true =
    ap (λ flags. is_departure_row (trip_of p row rows fs) (stop_row_of p x) && get_or flags x.stop_id.0 false) (sym place)
    ∙ sym (c.leaves_place.ensures p row fs d) ∙ c.if-not-leaves_place.false in
    let f = served_at p row rows fs c.args.trip.0 n x in
    let old = c.args.events.now.items in
    let test = is_served service e in
    ap (tally test) (c.in_ok-push_runs.ensures p row fs d refl ∙ ap (λ rs. old ++ map f rs) c.as_slice.ensures.value)
    ∙ tally-append test old (map f c.in_ok-runs.runs.items)
    ∙ ap (λ m. tally test old + m)
    (row_pushed p sound s c.args.trip.0 row rows fs c.trip_by_number-row.ensures at c.trip_frequencies-periods.ensures
    (trip_times p sound c.args.trip.0 rows at).stops n x (slice_get-get_or rows n d c.requires.within) service e _ boards (c.in_ok-runs.ensures.runs p row))

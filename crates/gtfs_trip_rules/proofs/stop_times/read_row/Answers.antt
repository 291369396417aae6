use Rattle.std.proofs.Common.{◌≡◌, ◌∙◌, ap, List, ℕ, subst, sym}
use Rattle.std.specs.Prelude.{option_and_then}
use Rattle.std.proofs.lemmas.Result.{on_ok_weaker}
use Rattle.gtfs_table.specs.Tables.{field_under}
use Rattle.gtfs_schema.specs.Columns.{id}
use Rattle.gtfs_schema.specs.FieldValues.{word}
use Rattle.gtfs_schema.specs.IdNumbers.{number_among}
use Rattle.gtfs_schema.specs.steps.Ids.{first_row_with, ids_of, number_with}
use Rattle.gtfs_trip_rules.specs.StopTimeFields.{text_of, value_in}
use Rattle.gtfs_trip_rules.specs.StopTimes.{stop_time_text, AreNumbersOf, IsReading, IsRow, IsStopTime}
use Rattle.gtfs_trip_rules.proofs.stop_times.read_row.Goals as goal

pub stop_time-stop_time-requires-clause-trip : goal.stop_time-stop_time-requires-clause-trip
stop_time-stop_time-requires-clause-trip c =
    let from : c.value.result.now ≡ stop_time_text c.args.columns.now.tables.now c.args.row "trip_id" = c.value.ensures ∙ (λ i. field_under (c.requires.fields i) (c.requires.columns.trip_id i)) in
    subst (λ (text : List ℕ). IsReading id (λ t. word t.now) text c.find-ids.result.trip.reading) from c.find-ids.ensures.trip.reading

pub stop_time-stop_time-requires-clause-stop : goal.stop_time-stop_time-requires-clause-stop
stop_time-stop_time-requires-clause-stop c =
    let from : c.value-2.result.now ≡ stop_time_text c.args.columns.now.tables.now c.args.row "stop_id" = c.value-2.ensures ∙ (λ i. field_under (c.requires.fields i) (c.requires.columns.stop_id i)) in
    subst (λ (text : List ℕ). IsReading id (λ t. word t.now) text c.find-ids.result.stop.reading) from c.find-ids.ensures.stop.reading

pub report_row-requires-clause-trip : goal.report_row-requires-clause-trip
report_row-requires-clause-trip c =
    let old = c.requires.named.trips in
    let new = (c.find-ids.ensures.same c.args.columns.now.tables.now c.requires.named).trips in
    c.find-ids.ensures.trip.row ∙ (λ i. option_and_then (first_row_with ((old ∙ sym new) i)) (text_of (value_in (sym c.stop_time-stop_time.ensures.trip i))))

pub report_row-requires-clause-stop : goal.report_row-requires-clause-stop
report_row-requires-clause-stop c =
    let old = c.requires.named.stops in
    let new = (c.find-ids.ensures.same c.args.columns.now.tables.now c.requires.named).stops in
    c.find-ids.ensures.stop.row ∙ (λ i. option_and_then (first_row_with ((old ∙ sym new) i)) (text_of (value_in (sym c.stop_time-stop_time.ensures.stop i))))

pub take_note-requires-clause-known : goal.take_note-requires-clause-known
take_note-requires-clause-known c =
    c.find-ids.ensures.trip.number
    ∙ (λ i. option_and_then (number_among ((ap ids_of c.requires.named.trips ∙ sym c.requires.trips) i)) (text_of (value_in (sym c.stop_time-stop_time.ensures.trip i))))

pub take_note-requires-clause-earlier : goal.take_note-requires-clause-earlier
take_note-requires-clause-earlier c = rw c.stop_time-stop_time.ensures.says.row c.requires.earlier

pub returns-clause-earlier : goal.returns-clause-earlier
returns-clause-earlier c = rw c.stop_time-stop_time.ensures.says.row at c.take_note.ensures.earlier

pub returns-in_err-report_row-clause-named : goal.returns-in_err-report_row-clause-named
returns-in_err-report_row-clause-named c = c.find-ids.ensures.same c.args.columns.now.tables.now c.requires.named

pub returns-clause-named : goal.returns-clause-named
returns-clause-named c = c.find-ids.ensures.same c.args.columns.now.tables.now c.requires.named

pub returns-clause-reported : goal.returns-clause-reported
returns-clause-reported c =
    let d = c.args.columns.now.tables.now in
    let s = c.stop_time-stop_time.result in
    let here = c.stop_time-stop_time.ensures.says.row in
    let is : IsRow d s = record { row = rw here c.requires.row; says = subst (λ m. IsStopTime d m s) (sym here) c.stop_time-stop_time.ensures.says } in
    let named = c.find-ids.ensures.same d c.requires.named in
    on_ok_weaker c.take_note.result (λ noted. rw here at (c.in_ok-report_row.ensures d c.requires.columns named is)) c.take_note.ensures.notes

pub returns-clause-notes : goal.returns-clause-notes
returns-clause-notes c = on_ok_weaker c.take_note.result (λ noted. noted c.args.columns.now.tables.now c.args.row c.stop_time-stop_time.ensures.says) c.take_note.ensures.notes

pub returns-clause-kept : goal.returns-clause-kept
returns-clause-kept c =
    let d = c.args.columns.now.tables.now in
    let s = c.stop_time-stop_time.result in
    let old = c.requires.named in
    let numbers : AreNumbersOf d s c.find-ids.result = record {
      trip = c.find-ids.ensures.trip.number ∙ (λ i. option_and_then (number_with (old.trips i)) (text_of (value_in (sym c.stop_time-stop_time.ensures.trip i))));
      stop = c.find-ids.ensures.stop.number ∙ (λ i. option_and_then (number_with (old.stops i)) (text_of (value_in (sym c.stop_time-stop_time.ensures.stop i))));
    } in
    on_ok_weaker c.take_note.result (λ noted. noted d c.args.row c.stop_time-stop_time.ensures.says numbers) c.take_note.ensures.kept

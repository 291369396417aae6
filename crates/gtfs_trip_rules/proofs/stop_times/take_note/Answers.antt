use Rattle.std.proofs.Common.{◌≡◌, ◌+◌, ◌++◌, ◌∙◌, [], ap, option_map, refl, subst, sym, Some}
use Rattle.std.specs.List.{cons_option}
use Rattle.std.specs.Prelude.{option_and_then}
use Rattle.std.proofs.lemmas.List.Elements.{All-push}
use Rattle.std.proofs.lemmas.Result.{on_ok_weaker}
use Rattle.gtfs_schema.specs.IdNumbers.{number_among}
use Rattle.gtfs_trip_rules.specs.KeptRows.{AllKeep, Keeps}
use Rattle.gtfs_trip_rules.specs.KeptRow.{kept_row}
use Rattle.gtfs_stop_times.specs.KeptTimes.{with_trip}
use Rattle.gtfs_trip_rules.specs.StopTimeFields.{text_of, value_in}
use Rattle.gtfs_trip_rules.specs.TripNotes.{trip_note}
use Rattle.gtfs_stop_times.specs.StopTimeOrder.{AreEarlier}
use Rattle.gtfs_trip_rules.proofs.EarlierRows.{earlier_pushed}
use Rattle.gtfs_trip_rules.proofs.KeptFacts.{keeps, note_said}
use Rattle.gtfs_trip_rules.proofs.stop_times.take_note.Goals as goal

pub note-requires-clause-known : goal.note-requires-clause-known
note-requires-clause-known c =
    let named : value_in c.args.stop_time.now.trip_id ≡ Some c.in-Some.trip_id = sym c.value.ensures ∙ c.in-Some.is in
    c.requires.known ∙ ap (λ o. option_and_then (number_among c.args.notes.now.trips) (text_of o)) named

pub note-requires-clause-earlier : goal.note-requires-clause-earlier
note-requires-clause-earlier c =
    subst (λ n. AreEarlier n c.args.notes.now.rows) (sym (ap (λ r. r.row) c.in_ok-kept.ensures)) c.requires.earlier

pub note-requires-clause-unnamed : goal.note-requires-clause-unnamed
note-requires-clause-unnamed c = ap (λ r. r.stop_row.stop_headsign) c.in_ok-kept.ensures

pub returns-clause-earlier : goal.returns-clause-earlier
returns-clause-earlier c =
    let s = c.args.stop_time.now in
    let old = c.args.notes.now.rows in
    on_ok_weaker c.note.result (λ noted. subst (AreEarlier (s.row + 1)) (sym noted.rows)
    (earlier_pushed s.row old (with_trip c.in_ok-kept.kept noted.trip) (ap (λ r. r.row) c.in_ok-kept.ensures) c.requires.earlier)) c.note.ensures.rows

pub returns-clause-notes : goal.returns-clause-notes
returns-clause-notes c =
    let s = c.args.stop_time.now in
    let stop = c.args.ids.now.stop.number in
    let named : Some c.in-Some.trip_id ≡ value_in s.trip_id = sym c.in-Some.is ∙ c.value.ensures in
    on_ok_weaker c.note.result (λ added. λ d n is.
    added ∙ ap (λ o. c.args.notes.now.notes ++ cons_option o [])
    (ap (λ k. Some (trip_note c.in-Some.trip_id.now k)) c.in_ok-kept.ensures ∙ ap (option_map (λ t. trip_note t.now (kept_row s stop))) named ∙ note_said d n s is stop)) c.note.ensures.notes

pub returns-clause-kept : goal.returns-clause-kept
returns-clause-kept c =
    let s = c.args.stop_time.now in
    let names = c.args.ids.now in
    on_ok_weaker c.note.result (λ noted. λ d n is are each.
    subst (AllKeep d) (sym noted.rows) (All-push (Keeps d) c.args.notes.now.rows (with_trip c.in_ok-kept.kept noted.trip) each
    (subst (λ k. Keeps d (with_trip k noted.trip)) (sym c.in_ok-kept.ensures) (keeps d n s is names.stop.number names are refl noted.trip noted.known)))) c.note.ensures.rows

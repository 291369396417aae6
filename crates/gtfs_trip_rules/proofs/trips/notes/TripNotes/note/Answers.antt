use Rattle.std.proofs.Common.{◌≡◌, ◌≤◌, ◌∙◌, ◌++◌, ◌∷◌, [], ap, arith, map, refl, reverse, subst, sym}
use Rattle.std.specs.Prelude.{◌&&◌}
use Rattle.std.proofs.lemmas.Bool.{eqb-true as same_number}
use Rattle.std.proofs.lemmas.List.{map-append, reverse-append}
use Rattle.gtfs_schema.specs.IdNumbers.{number_among}
use Rattle.gtfs_schema.specs.steps.Ids.{ids_of, number_with}
use Rattle.gtfs_stop_times.specs.KeptLists.{HasNoHeadsign}
use Rattle.gtfs_stop_times.specs.KeptTimes.{with_trip, is_placed}
use Rattle.gtfs_trip_rules.specs.JudgedTrips.{Judges}
use Rattle.gtfs_trip_rules.specs.TripNotes.{note_of, said}
use Rattle.gtfs_stop_times.specs.StopTimeOrder.{AreEarlier}
use Rattle.gtfs_trip_rules.specs.TripNumbers.{name_at, other_number}
use Rattle.std.specs.Option.{option_or, unwrap_or}
use Rattle.gtfs_trip_rules.proofs.TripCountFacts.{count_fits, none_named, one_kept, still_kept}
use Rattle.gtfs_trip_rules.proofs.TripNumberFacts.{notes_stay}
use Rattle.gtfs_trip_rules.proofs.trips.notes.TripNotes.note.Goals.{then-self, else-self}
use Rattle.gtfs_trip_rules.proofs.trips.notes.TripNotes.note.Goals as goal

pub invariant_of-self : goal.invariant_of-self
invariant_of-self c =
    let n = c.self.inside in
    let trips = ids_of n.trips.now in
    let reported = c.trip_number.ensures in
    still_kept trips n.numbers c.trip_number.new.numbers n.names.items c.trip_number.new.names.items n.counts.items n.counts.items n.are_sequenced n.judge n.rows c.self.invariant reported.keeps reported.named (λ m. refl)

pub invariant_of-self-in_err-make_room : goal.invariant_of-self-in_err-make_room
invariant_of-self-in_err-make_room c =
    let n = c.self.inside in
    let trips = ids_of n.trips.now in
    let reported = c.trip_number.ensures in
    still_kept trips n.numbers c.trip_number.new.numbers n.names.items c.trip_number.new.names.items n.counts.items c.make_room.new.counts.items n.are_sequenced n.judge n.rows c.self.invariant reported.keeps reported.named c.make_room.ensures.same

pub invariant_of-self-in_err-small_number : goal.invariant_of-self-in_err-small_number
invariant_of-self-in_err-small_number c =
    let n = c.self.inside in
    let trips = ids_of n.trips.now in
    let reported = c.trip_number.ensures in
    still_kept trips n.numbers c.trip_number.new.numbers n.names.items c.trip_number.new.names.items n.counts.items c.make_room.new.counts.items n.are_sequenced n.judge n.rows c.self.invariant reported.keeps reported.named c.make_room.ensures.same

pub invariant_of-self-in_err-push : goal.invariant_of-self-in_err-push
invariant_of-self-in_err-push c =
    let n = c.self.inside in
    let trips = ids_of n.trips.now in
    let reported = c.trip_number.ensures in
    rw c.in_err-push.ensures.kept
    (still_kept trips n.numbers c.trip_number.new.numbers n.names.items c.trip_number.new.names.items n.counts.items c.make_room.new.counts.items n.are_sequenced n.judge n.rows c.self.invariant reported.keeps reported.named c.make_room.ensures.same)

pub push-requires-clause-unnamed : goal.push-requires-clause-unnamed
push-requires-clause-unnamed c = subst (λ r. HasNoHeadsign r.stop_row) (sym c.of_trip-row.ensures) c.requires.unnamed

pub push-requires-clause-earlier : goal.push-requires-clause-earlier
push-requires-clause-earlier c =
    let row : c.of_trip-row.result.row ≡ c.args.kept.row = ap (λ r. r.row) c.of_trip-row.ensures in
    subst (λ n. AreEarlier n c.self.inside.rows) (sym row)
    (subst (AreEarlier c.args.kept.row) (sym (ap (λ v. v.rows) c.self.view_is)) c.requires.earlier)

pub make_room-requires : goal.make_room-requires
make_room-requires c =
    let n = c.self.inside in
    let reported = c.trip_number.ensures in
    omega (arith, (reported.named _ _ c.in_ok-trip.ensures.number).0, c.len.ensures.value, c.len.ensures.bound, c.trip_number.new.names.ok.0, c.trip_number.new.names.small)

pub index_mut-count-requires : goal.index_mut-count-requires
index_mut-count-requires c = omega (arith, c.in_ok-make_room.ensures.room, c.make_room.new.counts.ok.0)

pub overflow_add-count : goal.overflow_add-count
overflow_add-count c =
    let n = c.self.inside in
    let trips = ids_of n.trips.now in
    let reported = c.trip_number.ensures in
    let kept = still_kept trips n.numbers c.trip_number.new.numbers n.names.items c.trip_number.new.names.items n.counts.items c.make_room.new.counts.items n.are_sequenced n.judge n.rows c.self.invariant reported.keeps reported.named c.make_room.ensures.same in
    let small : c.index_mut-count.result.now ≤ 2 =
    count_fits c.make_room.new.counts.items n.rows kept.counted c.index_mut-count.result.now c.in_ok-trip.trip c.in_ok-make_room.ensures.room c.index_mut-count.ensures.value in
    omega (arith, small)

pub invariant_of-self-2 : goal.invariant_of-self-2
invariant_of-self-2 c =
    let n = c.self.inside in
    let trips = ids_of n.trips.now in
    let reported = c.trip_number.ensures in
    let kept = still_kept trips n.numbers c.trip_number.new.numbers n.names.items c.trip_number.new.names.items n.counts.items c.make_room.new.counts.items n.are_sequenced n.judge n.rows c.self.invariant reported.keeps reported.named c.make_room.ensures.same in
    let inside = c.in_ok-make_room.ensures.room in
    let both : c.if-self.self ≡ (n.are_sequenced && is_placed c.of_trip-row.result.times) = elim c.if-self.branch [
      | then-self w ↦ w.self-is ∙ w.are_placed-self-inside.ensures ∙ ap (λ b. b && is_placed c.of_trip-row.result.times) (sym w.if-self.true)
      | else-self w ↦ w.self-is ∙ w.if-self.false ∙ ap (λ b. b && is_placed c.of_trip-row.result.times) (sym w.if-self.false)
    ] in
    let of_trip : c.of_trip-row.result.trip ≡ c.in_ok-trip.trip = ap (λ r. r.trip) c.of_trip-row.ensures ∙ c.in_ok-small_number.ensures in
    let judged : Judges c.note.new.self (reverse (n.rows ++ c.of_trip-row.result ∷ [])) =
    subst (Judges c.note.new.self) (sym (reverse-append n.rows (c.of_trip-row.result ∷ [])))
    (c.note.ensures (reverse n.rows) kept.judged
    (λ new. none_named c.make_room.new.counts.items n.rows kept.counted c.index.result.now c.of_trip-row.result.trip (rw of_trip inside) (rw of_trip c.index.ensures) (same_number c.index.result.now 0 new))) in
    rw (c.in_ok-push.ensures.added, ← of_trip)
    (one_kept trips c.trip_number.new.numbers c.trip_number.new.names.items c.make_room.new.counts.items n.are_sequenced n.rows c.of_trip-row.result c.args.trip_id.now c.index_mut-count.result.now c.min.result c.if-self.self n.judge c.note.new.self both judged kept
    (rw of_trip c.in_ok-trip.ensures.number) (rw of_trip inside) (rw of_trip c.index_mut-count.ensures.value) c.min.ensures)

pub returns-clause-notes : goal.returns-clause-notes
returns-clause-notes c =
    let trips = ids_of c.self.inside.trips.now in
    let reported = c.trip_number.ensures in
    let rows = c.self.inside.rows in
    let name = name_at trips c.trip_number.new.names.items in
    let before = notes_stay trips c.self.inside.numbers c.trip_number.new.numbers c.self.inside.names.items c.trip_number.new.names.items rows c.self.invariant.numbered.numbered reported.keeps reported.named
    ∙ ap (λ v. v.notes) c.self.view_is in
    let named : name c.in_ok-trip.trip ≡ c.args.trip_id.now = (reported.named _ _ c.in_ok-trip.ensures.number).1 in
    ap (map (note_of name)) c.in_ok-push.ensures.added
    ∙ map-append (note_of name) rows (c.of_trip-row.result ∷ [])
    ∙ (λ i. before i ++ (ap (note_of name) (c.of_trip-row.ensures ∙ ap (with_trip c.args.kept) c.in_ok-small_number.ensures) ∙ ap (λ t. record { trip_id = t; row = said (λ n. t) c.args.kept }) named) i ∷ [])

pub returns-clause-rows : goal.returns-clause-rows
returns-clause-rows c =
    let id = c.args.trip_id.now in
    let told : c.args.number ≡ number_with c.self.inside.trips.now id = c.requires.known ∙ ap (λ v. number_among v.trips id) (sym c.self.view_is) in
    record {
      trip = c.in_ok-trip.trip;
      rows = c.in_ok-push.ensures.added ∙ (λ i. ap (λ v. v.rows) c.self.view_is i ++ (c.of_trip-row.ensures ∙ ap (with_trip c.args.kept) c.in_ok-small_number.ensures) i ∷ []);
      known = λ n is. ap (λ o. unwrap_or o n)
          (sym c.in_ok-trip.ensures.number ∙ ap (λ o. option_or o (other_number c.trip_number.new.numbers id)) (sym told ∙ is));
    }

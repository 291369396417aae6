use Rattle.std.proofs.Common.{◌≡◌, ◌≤◌, ◌<◌, ◌+◌, ◌∙◌, ◌&&◌, ◌==◌, ℕ, Bool, false, List, cond, length, get_or, sym, ap, subst, arith}
use Rattle.std.specs.Prelude.{unwrap_or}
use Rattle.std.specs.List.{All, slice_get}
use Rattle.std.proofs.lemmas.List.{get_or_default}
use Rattle.std.proofs.lemmas.List.Elements.{All-push}
use Rattle.gtfs_schema.specs.FieldValues.{if_there}
use Rattle.gtfs_field.proofs.ListFacts.{some_of}
use Rattle.gtfs_rows.specs.Places.{members}
use Rattle.gtfs_rows.specs.Runs.{is_departure_row}
use Rattle.gtfs_stop_times.specs.RowTimes.{left_at}
use Rattle.gtfs_rows.specs.RowsInMemory.{content_of_parts, stop_ids, stop_row_of, text_of_number, trip_of}
use Rattle.gtfs_rows.specs.declared.frequency.Frequency.{Frequency}
use Rattle.gtfs_rows.specs.declared.parts.Parts.{Parts}
use Rattle.gtfs_rows.specs.declared.trip.Trip.{Trip}
use Rattle.gtfs_stop_times.specs.declared.stop_row.StopRow.{StopRow}
use Rattle.gtfs_runs.specs.Tallies.{tally}
use Rattle.gtfs_runs.specs.StopIndex.{is_this_row}
use Rattle.gtfs_runs.specs.steps.NotedRows.{IsNoted}
use Rattle.gtfs_runs.specs.steps.Passings.{leaves}
use Rattle.gtfs_runs.specs.steps.FoundAtRow.{IsInside}
use Rattle.gtfs_runs.proofs.AtStopFacts.{asked_within, noted_here}
use Rattle.gtfs_runs.proofs.Tallies.{all_rows, more_rows, no_rows}
use Rattle.gtfs_runs.proofs.TripsElsewhere.{here_added, here_passed, inside_push}
use Rattle.gtfs_runs.proofs.stop_lanes.place_rows.add_stop_times.Goals.{then-leaves_place+in_ok-row_at+in_ok-push, else-leaves_place}
use Rattle.gtfs_runs.proofs.stop_lanes.place_rows.add_stop_times.Goals as goal

-- the place has the stops that its content says
here : (p : Parts) (s : ℕ) (t : Trip) (rows : List StopRow) (fs : List Frequency) (n : ℕ) (d : StopRow) (place : List Bool) → place ≡ members (content_of_parts p) (text_of_number (stop_ids p) s)
    → (is_departure_row (trip_of p t rows fs) (stop_row_of p (get_or rows n d)) && get_or place (get_or rows n d).stop_id.0 false) ≡ leaves p s t rows fs (n, get_or rows n d)
here p s t rows fs n d place is =
    ap (λ m. is_departure_row (trip_of p t rows fs) (stop_row_of p (get_or rows n d)) && get_or m (get_or rows n d).stop_id.0 false) is

pub leaves_place-requires-clause-stops : goal.leaves_place-requires-clause-stops
leaves_place-requires-clause-stops c = c.requires.stops

pub leaves_place-requires-clause-ascend : goal.leaves_place-requires-clause-ascend
leaves_place-requires-clause-ascend c = c.requires.ascend

pub loop-position-init : goal.loop-position-init
loop-position-init c = record {
  told = λ p s t r u fs place.
      no_rows (t == c.args.trip.0) (if_there (slice_get c.args.rows.now r) (λ x. leaves p s u c.args.rows.now fs (r, x))) r (tally (is_this_row t r) c.args.found.now.items);
  noted = λ p at were. were;
  inside = λ p at were. were;
}

pub loop-position-preserved : goal.loop-position-preserved
loop-position-preserved c =
    let rows = c.args.rows.now in
    let t = c.args.trip.0 in
    let n = c.loop-position.position in
    let within = c.loop-position-test.true in
    let d : StopRow = some_of rows n within in
    let inv = c.loop-position.invariant in
    elim c.if-leaves_place.branch [
      | then-leaves_place+in_ok-row_at+in_ok-push w ↦
          let pushed = ap (λ v. v.items) w.found-is ∙ w.in_ok-push.ensures.items in
          let y = w.index-rows-position.result in
          let same : y ≡ get_or rows n d = w.index-rows-position.is ∙ get_or_default rows n y d within in
          let x = w.in_ok-row_at.field-0 in
          let made = w.in_ok-row_at.ensures in
          record {
            told = λ p s v r u fs place.
                more_rows (v == t) (if_there (slice_get rows r) (λ z. leaves p s u rows fs (r, z))) r n _ _ _ (inv.told p s v r u fs place)
                (here_added (λ z. leaves p s u rows fs (n, z)) rows t 0 n d y x c.loop-position.found.items c.if-leaves_place.found.items within
                (sym (here p s u rows fs n d c.args.place.now place) ∙ sym (c.leaves_place.ensures p u fs d) ∙ w.if-leaves_place.true) made pushed v r);
            noted = λ p at were. subst (All (IsNoted p)) (sym pushed) (All-push (IsNoted p) c.loop-position.found.items x (inv.noted p at were) (noted_here p t 0 n rows y x at within w.index-rows-position.is made));
            inside = λ p known were.
                inside_push p t 0 n y x c.loop-position.found.items c.if-leaves_place.found.items known (subst (λ z. unwrap_or (left_at z) 0 ≤ 3_599_999) (sym same) (c.requires.to n d within)) made pushed (inv.inside p known were);
          }
      | else-leaves_place w ↦
          let kept = ap (λ v. v.items) w.found-is in
          record {
            told = λ p s v r u fs place.
                more_rows (v == t) (if_there (slice_get rows r) (λ z. leaves p s u rows fs (r, z))) r n _ _ _ (inv.told p s v r u fs place)
                (here_passed (λ z. leaves p s u rows fs (n, z)) rows t n d c.loop-position.found.items c.if-leaves_place.found.items within
                (sym (here p s u rows fs n d c.args.place.now place) ∙ sym (c.leaves_place.ensures p u fs d) ∙ w.if-leaves_place.false) kept v r);
            noted = λ p at were. subst (All (IsNoted p)) (sym kept) (inv.noted p at were);
            inside = λ p known were. subst (All (IsInside p)) (sym kept) (inv.inside p known were);
          }
    ]

pub returns : goal.returns
returns c =
    let rows = c.args.rows.now in
    let n = c.loop-position.position in
    let past : length rows ≤ n = omega (arith, c.loop-position-test.false) in
    record {
      told = λ p s t r u fs place.
          let q : StopRow → Bool = λ x. leaves p s u rows fs (r, x) in
          c.loop-position.invariant.told p s t r u fs place
          ∙ ap (λ b. tally (is_this_row t r) c.args.found.now.items + cond b 1 0)
          (all_rows (t == c.args.trip.0) (if_there (slice_get rows r) q) r n
          (λ holds. let known : r < length rows = asked_within (t == c.args.trip.0) q rows r holds in omega (arith, known, past)));
      noted = c.loop-position.invariant.noted;
      inside = c.loop-position.invariant.inside;
    }

use Rattle.std.proofs.Common.{rules, arith, ◌≡◌, ◌≤◌, ◌∙◌, Option, length, sym, ap, subst, inl, inr, w64, SFits, to_z, of_z, pos}
use Rattle.std.specs.Prelude.{◌-ℤ◌, option_map}
use Rattle.std.proofs.lemmas.Int.{to_z-of_z}
use Rattle.std.proofs.lemmas.List.{length-map}
use Rattle.gtfs_rows.specs.RowsInMemory.{stop_ids, text_of_number}
use Rattle.gtfs_runs.specs.StopLanes.{lanes_of}
use Rattle.gtfs_board.specs.Board.{start_of}
use Rattle.gtfs_board.specs.Floors.{IsNumbered, is_from}
use Rattle.gtfs_rows.specs.Key.{Key}
use Rattle.gtfs_board.specs.LentKeys.{plain_key}
use Rattle.gtfs_board.specs.declared.upcoming.candidate.Candidate.{Candidate}
use Rattle.gtfs_board.specs.upcoming.Candidates.{candidate_lt}
use Rattle.gtfs_board.proofs.Opened.{from_none, start_low, until_less}
use Rattle.gtfs_board.proofs.TimedBoards.{opened_board, timely-timed}
use Rattle.gtfs_board.proofs.board.Board.of_lanes.Goals as goal

pub invariant_of-days-clause-served : goal.invariant_of-days-clause-served
invariant_of-days-clause-served c = λ k d within. omega (arith, c.requires.lanes.within k d within, length-map c.args.feed.now.services (λ s. s.service_id))

pub invariant_of-days-clause-timely : goal.invariant_of-days-clause-timely
invariant_of-days-clause-timely c =
    timely-timed c.args.times c.args.feed.now c.soundness.ensures (text_of_number (stop_ids c.args.feed.now) c.args.stop.0) c.args.lanes c.requires.lanes c.requires.greatest

pub open-requires-clause-instant : goal.open-requires-clause-instant
open-requires-clause-instant c =
    let after : Option Key = option_map (λ k. plain_key k.now) c.args.after in
    let from_fits : SFits w64 c.args.span.from = search rules in
    let start : c.floor_of-floor.result.instant ≡ start_of c.args.span.from after = c.floor_of-floor.ensures.start ∙ ap (λ x. start_of x after) (to_z-of_z w64 c.args.span.from from_fits) in
    start_low c.args.span c.floor_of-floor.result.instant after c.requires.span start

pub open-requires-clause-aside : goal.open-requires-clause-aside
open-requires-clause-aside c = elim c.floor_of-floor.ensures.aside [
  | inl early ↦ inl early
  | inr past ↦ inr (subst (λ n. n ≤ c.floor_of-floor.result.lane) c.count.ensures past)
]

pub invariant_of-result : goal.invariant_of-result
invariant_of-result c =
    let p = c.args.feed.now in
    let span = c.args.span in
    let after : Option Key = option_map (λ k. plain_key k.now) c.args.after in
    let floor = c.floor_of-floor.result in
    let v = c.in_ok-departures.departures in
    let made = c.in_ok-departures.ensures in
    let from_fits : SFits w64 span.from = search rules in
    let until_fits : SFits w64 span.until = search rules in
    let from_is = to_z-of_z w64 span.from from_fits in
    let ends = ap (λ x. to_z w64 (of_z w64 (x -ℤ pos 1))) (to_z-of_z w64 span.until until_fits) ∙ to_z-of_z w64 (span.until -ℤ pos 1) (until_less span c.requires.span until_fits) in
    let start = c.floor_of-floor.ensures.start ∙ ap (λ x. start_of x after) from_is in
    let above : (x : Candidate) → IsNumbered p (length (lanes_of c.args.lanes)) x → candidate_lt floor x ≡ is_from p span.from after x =
    λ x known. c.floor_of-floor.ensures.value x (subst (λ n. IsNumbered p n x) (sym c.count.ensures) known) ∙ ap (λ y. is_from p y after x) from_is in
    (opened_board c.args.times p c.soundness.ensures (text_of_number (stop_ids p) c.args.stop.0) c.args.lanes c.requires.lanes c.args.zone.now _ span after floor v ends made.rest above c.requires.greatest start made.settings made.queued
    (from_none c.args.steps v.steps _ c.requires.steps made.steps)).0

pub returns : goal.returns
returns c =
    let p = c.args.feed.now in
    let span = c.args.span in
    let after : Option Key = option_map (λ k. plain_key k.now) c.args.after in
    let floor = c.floor_of-floor.result in
    let v = c.in_ok-departures.departures in
    let made = c.in_ok-departures.ensures in
    let from_fits : SFits w64 span.from = search rules in
    let until_fits : SFits w64 span.until = search rules in
    let from_is = to_z-of_z w64 span.from from_fits in
    let ends = ap (λ x. to_z w64 (of_z w64 (x -ℤ pos 1))) (to_z-of_z w64 span.until until_fits) ∙ to_z-of_z w64 (span.until -ℤ pos 1) (until_less span c.requires.span until_fits) in
    let start = c.floor_of-floor.ensures.start ∙ ap (λ x. start_of x after) from_is in
    let above : (x : Candidate) → IsNumbered p (length (lanes_of c.args.lanes)) x → candidate_lt floor x ≡ is_from p span.from after x =
    λ x known. c.floor_of-floor.ensures.value x (subst (λ n. IsNumbered p n x) (sym c.count.ensures) known) ∙ ap (λ y. is_from p y after x) from_is in
    (opened_board c.args.times p c.soundness.ensures (text_of_number (stop_ids p) c.args.stop.0) c.args.lanes c.requires.lanes c.args.zone.now _ span after floor v ends made.rest above c.requires.greatest start made.settings made.queued
    (from_none c.args.steps v.steps _ c.requires.steps made.steps)).1

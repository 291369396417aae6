use Rattle.std.proofs.Common.{◌≡◌, ◌≤◌, ◌<◌, ◌+◌, ◌==◌, ◌∙◌, length, cond, map, refl, ap, subst, arith}
use Rattle.std.specs.List.{All, slice_get}
use Rattle.gtfs_schema.specs.FieldValues.{if_there}
use Rattle.gtfs_runs.specs.Tallies.{tally}
use Rattle.gtfs_runs.specs.StopIndex.{is_this_row}
use Rattle.gtfs_runs.specs.steps.AtStops.{StandBefore, at_stop, leaves_stop}
use Rattle.gtfs_runs.proofs.AtStopFacts.{asked_within}
use Rattle.gtfs_runs.proofs.Tallies.{all_rows, more_rows, no_rows}
use Rattle.gtfs_runs.proofs.stop_index.at_stops.add_rows.Goals as goal

pub add_row-requires-clause-stops : goal.add_row-requires-clause-stops
add_row-requires-clause-stops c = λ k d within.
    let known = c.requires.stops k d within in
    omega (arith, known, c.loop-position.invariant.length)

pub loop-position-init : goal.loop-position-init
loop-position-init c = record {
  length = refl;
  told = λ s t r p u fs.
      no_rows (t == c.args.trip.0) (if_there (slice_get c.args.rows.now r) (leaves_stop p u c.args.rows.now fs s)) r (tally (is_this_row t r) (at_stop (map (λ x. x.items) c.args.found.now.items) s));
  order = λ p was. was;
  noted = λ p at were. were;
  ranked = λ q is were. were;
}

pub loop-position-preserved : goal.loop-position-preserved
loop-position-preserved c = record {
  length = c.in_ok-add_row.ensures.length ∙ c.loop-position.invariant.length;
  told = λ s t r p u fs.
      more_rows (t == c.args.trip.0) (if_there (slice_get c.args.rows.now r) (leaves_stop p u c.args.rows.now fs s)) r c.loop-position.position _ _ _
      (c.loop-position.invariant.told s t r p u fs) (c.in_ok-add_row.ensures.told s t r p u fs);
  order = λ p was. c.in_ok-add_row.ensures.order p (c.loop-position.invariant.order p was);
  noted = λ p at were. c.in_ok-add_row.ensures.noted p at (c.loop-position.invariant.noted p at were);
  ranked = λ q is were. c.in_ok-add_row.ensures.ranked q is (c.loop-position.invariant.ranked q is were);
}

pub returns : goal.returns
returns c =
    let rows = c.args.rows.now in
    let n = c.loop-position.position in
    let past : length rows ≤ n = omega (arith, c.loop-position-test.false) in
    record {
      length = c.loop-position.invariant.length;
      told = λ s t r p u fs.
          let q = leaves_stop p u rows fs s in
          c.loop-position.invariant.told s t r p u fs
          ∙ ap (λ b. tally (is_this_row t r) (at_stop (map (λ x. x.items) c.args.found.now.items) s) + cond b 1 0)
          (all_rows (t == c.args.trip.0) (if_there (slice_get rows r) q) r n
          (λ holds. let known : r < length rows = asked_within (t == c.args.trip.0) q rows r holds in omega (arith, known, past)));
      order = λ p was.
          let all : n ≡ length rows = omega (arith, c.loop-position-test.false, c.loop-position.auto.position-end) in
          subst (λ m. All (StandBefore p c.args.trip.0 m) (map (λ x. x.items) c.loop-position.found.items)) all (c.loop-position.invariant.order p was);
      noted = c.loop-position.invariant.noted;
      ranked = c.loop-position.invariant.ranked;
    }

use Rattle.std.proofs.Common.{◌≡◌, ◌<◌, ◌≤◌, ◌+◌, ◌++◌, ◌∷◌, ◌∙◌, [], ap, arith, get_or, length, map, subst, sym}
use Rattle.std.proofs.lemmas.List.{map_push, take_all, take_more}
use Rattle.std.proofs.lemmas.List.Elements.{All-push}
use Rattle.gtfs_table.specs.FieldOffsets.{parts}
use Rattle.gtfs_table.proofs.PartFacts.{length-parts, part-at, part-bounds}
use Rattle.gtfs_stop_times.specs.StopTimesByTrip.{AreWithin, rows_in}
use Rattle.gtfs_stop_times.specs.declared.by_trip.RowRange.{RowRange}
use Rattle.gtfs_stop_times.proofs.ranges.ranges_in_turn.Goals as goal

pub loop-trip-preserved : goal.loop-trip-preserved
loop-trip-preserved c =
    let rows = c.args.rows.now in
    let starts = c.args.starts.now in
    let t = c.loop-trip.trip in
    let all = parts starts rows in
    let within : t < length starts = omega (arith, c.loop-trip-test.true) in
    let bounds = part-bounds 0 starts (length rows) t c.requires within in
    let s : RowRange = record { start = get_or starts t 0; end = get_or starts (t + 1) (length rows) } in
    let pushed : c.push.new.self.items ≡ c.loop-trip.ranges.items ++ s ∷ [] =
    c.in_ok-push.ensures.items ∙ ap (λ e. c.loop-trip.ranges.items ++ record { start = get_or starts t 0; end = e } ∷ []) c.end_of-end.ensures in
    let here : rows_in rows s ≡ get_or all t [] = sym (part-at starts rows t within) in (
      subst (AreWithin (length rows)) (sym pushed) (All-push (λ r. (r.start ≤ r.end) × (r.end ≤ length rows)) c.loop-trip.ranges.items s c.loop-trip.invariant.0 bounds),
      ap (map (rows_in rows)) pushed ∙ map_push (rows_in rows) c.loop-trip.ranges.items s ∙ (λ i. c.loop-trip.invariant.1 i ++ here i ∷ [])
          ∙ sym (take_more all t [] (omega (arith, within, length-parts starts rows))),
    )

pub returns-clause-rows : goal.returns-clause-rows
returns-clause-rows c =
    let all = parts c.args.starts.now c.args.rows.now in
    c.loop-trip.invariant.1 ∙ take_all c.loop-trip.trip all (omega (arith, c.loop-trip-test.false, length-parts c.args.starts.now c.args.rows.now))

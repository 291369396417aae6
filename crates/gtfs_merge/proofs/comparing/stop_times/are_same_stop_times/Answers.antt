use Rattle.std.proofs.Common.{◌<◌, ◌∙◌, length, map, ap, sym, arith}
use Rattle.std.specs.Cmp.Lexicographic.{pointwise}
use Rattle.std.proofs.lemmas.Simd.{map-map}
use Rattle.gtfs_rows.specs.RowsInMemory.{stop_row_of}
use Rattle.gtfs_merge.specs.Renaming.{stop_b, stop_row_with}
use Rattle.gtfs_merge.specs.SameRows.{same_stop_row}
use Rattle.gtfs_merge.specs.MergedSides.{content_a, content_b, nearness_of}
use Rattle.gtfs_merge.proofs.SameLists.{same-more, same-not}
use Rattle.gtfs_merge.proofs.comparing.stop_times.are_same_stop_times.Goals as goal

pub loop-number-init : goal.loop-number-init
loop-number-init c =
    let sides = c.args.sides.now in
    let rename = stop_b (nearness_of sides) (content_a sides) (content_b sides) in
    ap (pointwise same_stop_row (map (stop_row_of sides.a.now) c.args.rows_a.now)) (map-map (stop_row_with rename) (stop_row_of sides.b.now) c.args.rows_b.now)

pub returns-then-not-is_same_stop_time : goal.returns-then-not-is_same_stop_time
returns-then-not-is_same_stop_time c =
    let sides = c.args.sides.now in
    let rename = stop_b (nearness_of sides) (content_a sides) (content_b sides) in
    let k = c.loop-number.number in
    let within_a : k < length c.args.rows_a.now = omega arith in
    let within_b : k < length c.args.rows_b.now = omega arith in
    sym (c.loop-number.invariant ∙ same-not same_stop_row (stop_row_of sides.a.now) (λ r. stop_row_with rename (stop_row_of sides.b.now r)) c.args.rows_a.now c.args.rows_b.now k
    c.index-rows_a-number.result c.index-rows_b-number.result within_a within_b
    ((λ i. same_stop_row (stop_row_of sides.a.now (sym c.index-rows_a-number.is i)) (stop_row_with rename (stop_row_of sides.b.now (sym c.index-rows_b-number.is i))))
    ∙ sym c.is_same_stop_time.ensures ∙ c.if-not-is_same_stop_time.true))

pub loop-number-preserved : goal.loop-number-preserved
loop-number-preserved c =
    let sides = c.args.sides.now in
    let rename = stop_b (nearness_of sides) (content_a sides) (content_b sides) in
    let k = c.loop-number.number in
    let within_a : k < length c.args.rows_a.now = omega arith in
    let within_b : k < length c.args.rows_b.now = omega arith in
    c.loop-number.invariant ∙ same-more same_stop_row (stop_row_of sides.a.now) (λ r. stop_row_with rename (stop_row_of sides.b.now r)) c.args.rows_a.now c.args.rows_b.now k
    c.index-rows_a-number.result c.index-rows_b-number.result within_a within_b
    ((λ i. same_stop_row (stop_row_of sides.a.now (sym c.index-rows_a-number.is i)) (stop_row_with rename (stop_row_of sides.b.now (sym c.index-rows_b-number.is i))))
    ∙ sym c.is_same_stop_time.ensures ∙ c.if-not-is_same_stop_time.false)

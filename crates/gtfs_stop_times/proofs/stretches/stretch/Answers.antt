use Rattle.std.proofs.Common.{◌∙◌, ap, Some, [], length, arith}
use Rattle.std.proofs.lemmas.Option.{slice_get-get_or}
use Rattle.gtfs_table.specs.FieldOffsets.{parts}
use Rattle.gtfs_table.proofs.PartFacts.{length-parts, part-at, part-bounds}
use Rattle.gtfs_stop_times.proofs.stretches.stretch.Goals as goal

pub offset_bounds-rows-start : goal.offset_bounds-rows-start
offset_bounds-rows-start g c =
    let b = part-bounds 0 c.args.starts.now (length c.args.rows.now) c.args.number c.requires.rising c.requires.within in
    omega (arith, b.0, b.1)

pub slice_bounds-result-count : goal.slice_bounds-result-count
slice_bounds-result-count g c =
    let b = part-bounds 0 c.args.starts.now (length c.args.rows.now) c.args.number c.requires.rising c.requires.within in
    rw c.end_of-end.ensures b.0

pub slice_bounds-result-start : goal.slice_bounds-result-start
slice_bounds-result-start g c =
    let b = part-bounds 0 c.args.starts.now (length c.args.rows.now) c.args.number c.requires.rising c.requires.within in
    rw c.end_of-end.ensures b.0

pub slice_bounds-result-end : goal.slice_bounds-result-end
slice_bounds-result-end g c =
    let b = part-bounds 0 c.args.starts.now (length c.args.rows.now) c.args.number c.requires.rising c.requires.within in
    rw c.end_of-end.ensures b.1

pub returns : goal.returns
returns g c =
    let there = slice_get-get_or (parts c.args.starts.now c.args.rows.now) c.args.number [] (omega (arith, length-parts c.args.starts.now c.args.rows.now, c.requires.within)) in
    rw c.end_of-end.ensures (there ∙ ap Some (part-at c.args.starts.now c.args.rows.now c.args.number c.requires.within))

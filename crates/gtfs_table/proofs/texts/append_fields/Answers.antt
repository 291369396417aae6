use Rattle.std.proofs.Common.{◌≡◌, ◌++◌, ℕ, List, length, sym, ap, arith}
use Rattle.std.proofs.lemmas.List.{length-take-le}
use Rattle.gtfs_table.proofs.StoreFacts.{on_ok-if}
use Rattle.gtfs_table.proofs.FieldFacts.{concat-fields}
use Rattle.gtfs_table.proofs.texts.append_fields.Goals as goal

pub slice_bounds-extend_from_slice-end : goal.slice_bounds-extend_from_slice-end
slice_bounds-extend_from_slice-end c =
    let whole = (concat-fields c.args.row.now.ends c.args.row.now.bytes c.requires).1 in
    let text : length c.as_slice-row_bytes.result.now ≡ length c.args.row.now.bytes = ap (λ (t : List ℕ). length t) c.as_slice-row_bytes.ensures in
    let size = c.in_ok-size.ensures.size in
    sym (length-take-le c.in_ok-size.size c.as_slice-row_bytes.result.now (omega arith))

pub returns-clause-bytes : goal.returns-clause-bytes
returns-clause-bytes c =
    let whole = (concat-fields c.args.row.now.ends c.args.row.now.bytes c.requires).0 in
    on_ok-if c.extend_from_slice.result _ _ _ _ c.extend_from_slice.ensures.items
    (rw (c.as_slice-row_bytes.ensures, c.in_ok-size.ensures.size) (ap (λ (t : List ℕ). c.args.bytes.now.items ++ t) (sym whole)))

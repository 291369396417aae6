use Rattle.std.proofs.Common.{◌≡◌, ◌-◌, ◌&&◌, ◌∙◌, length, get_or, true, false, ap, sym, arith}
use Rattle.std.specs.Prelude.{nat_lt}
use Rattle.std.proofs.lemmas.Bool.{lt-ltb, le-ltb}
use Rattle.std.proofs.lemmas.List.{get_or_default}
use Rattle.gtfs_stop_times.specs.declared.stop_row.StopRow.{StopRow}
use Rattle.gtfs_rows.specs.RowsInMemory.{stop_row_of}
use Rattle.gtfs_rows.specs.Runs.{allows_boarding, is_timed}
use Rattle.gtfs_runs.proofs.DepartureFacts.{not_last, departs, ends}
use Rattle.gtfs_runs.proofs.departure_row.is_departure_row.Goals as goal

pub returns-then-position-rows : goal.returns-then-position-rows
returns-then-position-rows c = λ p t fs d.
    let rows = c.args.rows.now in
    let k = c.args.position in
    let x : StopRow = get_or rows k d in
    let same : c.index-rows-position.result ≡ x = c.index-rows-position.is ∙ get_or_default rows k c.index-rows-position.result d c.requires.within in
    let more : nat_lt k (length rows - 1) ≡ true = lt-ltb k (length rows - 1) (omega (arith, c.if-position-rows.true)) in
    departs (is_timed (stop_row_of p x)) _ (allows_boarding (stop_row_of p x)) c.lets_board.result
    (c.lets_board.ensures p ∙ ap (λ r. is_timed (stop_row_of p r) && allows_boarding (stop_row_of p r)) same)
    (not_last p rows k d c.requires.ascend c.requires.within ∙ more)

pub returns-else-position-rows : goal.returns-else-position-rows
returns-else-position-rows c = λ p t fs d.
    let rows = c.args.rows.now in
    let k = c.args.position in
    let x : StopRow = get_or rows k d in
    let over : nat_lt k (length rows - 1) ≡ false = le-ltb k (length rows - 1) (omega (arith, c.if-position-rows.false)) in
    let is = not_last p rows k d c.requires.ascend c.requires.within in
    ends (is_timed (stop_row_of p x)) _ (allows_boarding (stop_row_of p x)) _ (sym is) (is ∙ over)

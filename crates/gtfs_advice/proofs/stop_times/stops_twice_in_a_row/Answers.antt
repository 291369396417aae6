use Rattle.std.proofs.Common.{rules, tests, ◌∙◌, arith}
use Rattle.std.proofs.lemmas.Iterator.Search.{any_from_yields_List}
use Rattle.gtfs_advice.specs.NumberedRows.{have_one_stop, of_two_rows}
use Rattle.gtfs_advice.proofs.Rows.{twice_in_a_row}
use Rattle.gtfs_advice.proofs.Windows.{YieldsList-from_windows}
use Rattle.gtfs_advice.proofs.stop_times.stops_twice_in_a_row.Goals as goal

pub returns : goal.returns
returns c p t along =
    let rows = c.args.rows.now in
    any_from_yields_List (of_two_rows have_one_stop) _ _ c.any.result c.any.ensures.ran (YieldsList-from_windows c.windows.result 2 rows (omega arith) c.windows.ensures.size c.windows.ensures.rest) (λ x b q k. search (rules, tests))
    ∙ twice_in_a_row p rows t along

use Rattle.std.proofs.Common.{rules, tests, ◌∙◌, arith}
use Rattle.std.proofs.lemmas.Iterator.Search.{any_from_yields_List}
use Rattle.gtfs_advice.specs.NumberedRows.{are_too_fast, of_two_rows}
use Rattle.gtfs_advice.proofs.Rows.{faster}
use Rattle.gtfs_advice.proofs.Windows.{YieldsList-from_windows}
use Rattle.gtfs_advice.proofs.stop_times.is_faster_than_a_train.Goals as goal

pub returns : goal.returns
returns c p t along latitudes =
    let rows = c.args.rows.now in
    any_from_yields_List (of_two_rows (are_too_fast c.args.latitudes.now)) _ _ c.any.result c.any.ensures.ran (YieldsList-from_windows c.windows.result 2 rows (omega arith) c.windows.ensures.size c.windows.ensures.rest) (λ x b q k. search (rules, tests))
    ∙ faster p rows t along c.args.latitudes.now latitudes

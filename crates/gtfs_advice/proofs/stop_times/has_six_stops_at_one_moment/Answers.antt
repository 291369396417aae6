use Rattle.std.proofs.Common.{rules, tests, ◌∙◌, arith}
use Rattle.std.proofs.lemmas.Iterator.Search.{any_from_yields_List}
use Rattle.std.proofs.Common.{map}
use Rattle.gtfs_rows.specs.RowsInMemory.{stop_row_of}
use Rattle.gtfs_advice.specs.StopTimes.{is_at_one_moment}
use Rattle.gtfs_advice.proofs.Rows.{six_at_once}
use Rattle.gtfs_advice.proofs.Windows.{YieldsList-from_windows}
use Rattle.gtfs_advice.proofs.stop_times.has_six_stops_at_one_moment.Goals as goal

pub returns : goal.returns
returns c p t along =
    let rows = c.args.rows.now in
    any_from_yields_List (λ rs. is_at_one_moment (map (stop_row_of p) rs)) _ _ c.any.result c.any.ensures.ran (YieldsList-from_windows c.windows.result 6 rows (omega arith) c.windows.ensures.size c.windows.ensures.rest) (λ x b q k. search (rules, tests))
    ∙ six_at_once p rows t along

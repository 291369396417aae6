use Rattle.std.proofs.Common.{rules, tests, ◌∙◌}
use Rattle.std.proofs.lemmas.Iterator.Search.{any_from_yields_List}
use Rattle.std.proofs.lemmas.Iterator.{YieldsList-from_slice}
use Rattle.gtfs_advice.specs.NumberedRows.{is_closed_row}
use Rattle.gtfs_advice.proofs.Rows.{any_closed}
use Rattle.gtfs_advice.proofs.stop_times.has_closed_stop.Goals as goal

pub returns : goal.returns
returns c p t along =
    let rows = c.args.rows.now in
    any_from_yields_List is_closed_row _ _ c.any.result c.any.ensures.ran (YieldsList-from_slice rows c.iter.ensures.rest) (λ x b q k. search (rules, tests))
    ∙ any_closed p rows t along

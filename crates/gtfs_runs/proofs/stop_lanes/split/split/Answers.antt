use Rattle.std.proofs.Common.{List, map, sym, ap, subst}
use Rattle.gtfs_rows.specs.RowsInMemory.{content_of_parts}
use Rattle.gtfs_runs.specs.StopLanes.{LaneValue, filled_value, list_value}
use Rattle.gtfs_runs.specs.steps.FilledApart.{AreApart}
use Rattle.gtfs_times.specs.TimedRows.{is_interpolated}
use Rattle.gtfs_runs.proofs.LanesMoved.{all_given}
use Rattle.gtfs_runs.proofs.stop_lanes.split.split.Goals as goal

pub returns-in-Given : goal.returns-in-Given
returns-in-Given c =
    let content = content_of_parts c.args.feed.now in
    let lists : List LaneValue = map list_value c.args.lists.items in
    subst (λ ys. AreApart content lists lists (map filled_value ys)) (sym c.new.ensures.items) (all_given content lists (c.requires (ap is_interpolated c.in-Given.is)))

use Rattle.std.proofs.Common.{◌≡◌, sym, subst}
use Rattle.std.specs.Prelude.{All}
use Rattle.gtfs_rows.specs.RowsInMemory.{content_of_parts, stop_ids, text_of_number}
use Rattle.gtfs_rows.specs.declared.parts.Parts.{Parts}
use Rattle.gtfs_runs.specs.Lanes.{latest}
use Rattle.gtfs_times.specs.Filling.{timed}
use Rattle.gtfs_times.specs.declared.times.Times.{Times}
use Rattle.gtfs_board.specs.ShownTrips.{IsShown}
use Rattle.gtfs_board.proofs.board.Board.open_indexed.Goals as goal

pub of_lanes-requires-clause-greatest : goal.of_lanes-requires-clause-greatest
of_lanes-requires-clause-greatest c =
    subst (λ (r : Times × Parts). c.in_ok-lanes.lanes.greatest ≡ latest (timed r.0 (content_of_parts r.1)) (text_of_number (stop_ids r.1) c.in_ok-number.number.0))
    (λ i. (sym c.times-times.ensures i, sym c.feed-feed.ensures i)) c.in_ok-lanes.ensures.greatest

pub returns-clause-shown : goal.returns-clause-shown
returns-clause-shown c = subst (λ (p : Parts). All (IsShown (content_of_parts p)) c.in_ok-board.board.rest) c.feed-feed.ensures c.in_ok-board.ensures.shown

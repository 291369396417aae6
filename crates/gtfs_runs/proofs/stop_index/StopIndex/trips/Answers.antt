use Rattle.std.proofs.Common.{sym, subst}
use Rattle.std.specs.List.{All}
use Rattle.gtfs_runs.specs.StopIndex.{StopIndexValue}
use Rattle.gtfs_runs.specs.steps.IndexedTrips.{IsRanked}
use Rattle.gtfs_runs.proofs.stop_index.StopIndex.trips.Goals as goal

pub returns : goal.returns
returns c =
    let kept = subst (λ ts. All (All (IsRanked c.self.inside.feed.now ts)) c.self.inside.rows) (sym c.deref.ensures.value) c.self.invariant.trips in
    subst (λ (v : StopIndexValue). All (All (IsRanked v.feed c.deref.result.now)) v.rows) c.self.view_is kept

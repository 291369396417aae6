use Rattle.std.proofs.Common.{List, ℕ, subst, sym}
use Rattle.std.specs.List.{All}
use Rattle.gtfs_stop_times.specs.StopLists.{LiesIn}
use Rattle.gtfs_stop_times.proofs.StopListFacts.{all-lie}
use Rattle.gtfs_stop_times.proofs.stop_lists.StopLists.all.Goals as goal

pub returns : goal.returns
returns c =
    subst (λ (v : List ℕ × List (List ℕ)). All (LiesIn v.0) v.1) (λ i. (sym c.deref.ensures.value i, c.self.view_is i))
    (all-lie c.self.inside.stops.items c.self.inside.ranges.items)

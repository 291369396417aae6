-- The lists of a stop in two: by whether a stop time without a time of its own is among them.
use Rattle.std.specs.Prelude.{◌≡◌, ◌++◌, true, false, All, List}
use Rattle.std.specs.List.Sorted.{IsPermutation}
use Rattle.gtfs_rows.specs.Content.{Content}
use Rattle.gtfs_runs.specs.LaneKinds.{has_untimed}
use Rattle.gtfs_runs.specs.StopLanes.{LaneValue}

-- these lists in two: those of which each event is at a stop time with a time of its own, and the others
pub record AreApart (c : Content) (lists ones others : List LaneValue) : Type 0 where
  pub same : IsPermutation lists (ones ++ others)
  pub given : All (λ lane. has_untimed c lane ≡ false) ones
  pub filled : All (λ lane. has_untimed c lane ≡ true) others

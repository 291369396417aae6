-- The lists of lanes, and the latest of their events.
use Rattle.std.specs.Prelude.{ℕ, List, map, max}
use Rattle.std.specs.List.{fold}
use Rattle.gtfs_runs.specs.declared.event.Event.{Event}

-- the latest time of events, 0 where there is none
abbrev pub latest_of : List Event → ℕ
latest_of es = fold max 0 (map (λ e. e.at) es)

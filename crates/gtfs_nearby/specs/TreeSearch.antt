-- The least number of stops inside an area.
use Rattle.std.specs.Prelude.{◌≡◌, ◌<◌, ◌≤◌, ℕ, true, List, slice_index_or}
use Rattle.gtfs_nearby.specs.MapAreas.{has}
use Rattle.gtfs_nearby.specs.declared.area.Area.{Area}
use Rattle.gtfs_nearby.specs.declared.listed.Listed.{Listed}
use Rattle.gtfs_nearby.specs.declared.run.Run.{Run}

-- the least number of a stop of the run inside the area, where it is below a number; else that number
pub record IsLeastOfRun (area : Area) (xs : List Listed) (run : Run) (below least : ℕ) : Type 0 where
  pub bound : least ≤ below
  pub each : (k : ℕ) (d : Listed) → run.from ≤ k → k < run.until → has area (slice_index_or xs k d).place ≡ true → least ≤ (slice_index_or xs k d).number
  pub one : least < below → (k : ℕ) × (run.from ≤ k) × (k < run.until) × ((d : Listed) → (has area (slice_index_or xs k d).place ≡ true) × ((slice_index_or xs k d).number ≡ least))

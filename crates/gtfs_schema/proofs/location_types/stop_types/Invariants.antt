use Rattle.std.proofs.Common.{◌≡◌, ℕ, ◌+◌, ◌<◌, length}
use Rattle.gtfs_table.specs.declared.file.File.TheVariants as file
use Rattle.gtfs_schema.specs.RowConditions.{choice_in}
use Rattle.gtfs_schema.specs.steps.StopTypes.{type_of}
use Rattle.gtfs_schema.proofs.location_types.stop_types.Given as goal

-- the types so far
abbrev pub invariant-loop-n : goal.invariant-loop-n
invariant-loop-n l = record {
  long : length l.types.items ≡ l.n + 1;
  read : (m : ℕ) → m < l.n + 1 → type_of l.types.items m ≡ choice_in l.tables file.Stops m "location_type";
}

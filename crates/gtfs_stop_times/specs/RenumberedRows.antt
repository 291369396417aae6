-- Stop times whose stops and headsigns get other numbers.
use Rattle.std.specs.Prelude.{ℕ, List, Option, None, option_and_then, slice_index_or}
use Rattle.gtfs_stop_times.specs.declared.stop_row.StopRow.{StopRow}

-- a stop time whose stop and headsign have the numbers that stand at their old ones
abbrev pub renumbered_row : List ℕ → List (Option ℕ) → StopRow → StopRow
renumbered_row stops headsigns r = record r {
  stop_id = record { 0 = slice_index_or stops r.stop_id.0 0 };
  stop_headsign = option_and_then (λ n. slice_index_or headsigns n None) r.stop_headsign;
}

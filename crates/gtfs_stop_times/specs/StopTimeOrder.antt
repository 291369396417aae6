-- Stop times in their order: by trip, sequence and row.
use Rattle.std.specs.Prelude.{ℕ, ◌+◌, ◌*◌, ◌^◌, ◌<◌, List, pos}
use Rattle.std.specs.List.{All}
use Rattle.std.specs.Ordering.{int_cmp, nat_cmp, on, then_cmp}
use Rattle.std.specs.declared.cmp.Ordering.{Ordering}
use Rattle.gtfs_stop_times.specs.declared.stop_time.StopTime.{StopTime}

-- by the numbers of their trips
abbrev pub kept_cmp : StopTime → StopTime → Ordering
kept_cmp = then_cmp (on (λ r. r.trip) nat_cmp) (then_cmp (on (λ r. pos r.stop_row.stop_sequence) int_cmp) (on (λ r. r.row) nat_cmp))

-- a stop time by its trip and its sequence
abbrev pub rank : StopTime → ℕ
rank row = row.trip * 2 ^ 32 + row.stop_row.stop_sequence

-- all rows come before this one in the file
abbrev pub AreEarlier : ℕ → List StopTime → Type 0
AreEarlier n rows = All (λ r. r.row < n) rows

-- The nearest stop times with times around an index of a trip's stop times: what is known while they are filled.
use Rattle.std.specs.Prelude.{◌≡◌, ◌<◌, ◌≤◌, ◌⊎◌, ℕ, List, Option, Some, None, true, false, is_some, length, slice_index_or}
use Rattle.gtfs_stop_times.specs.RowTimes.{left_at}
use Rattle.gtfs_stop_times.specs.declared.stop_row.StopRow.{StopRow}
use Rattle.gtfs_times.specs.declared.span.Span.{Span}

-- from an index on, and before another, no stop time has a time
abbrev pub HaveNone : List StopRow → ℕ → ℕ → Type 0
HaveNone rs i j = (k : ℕ) (d : StopRow) → i ≤ k → k < j → is_some (left_at (slice_index_or rs k d)) ≡ false

-- two stop times with times, and none between them has one
pub record AreNeighbours (rs : List StopRow) (i j : ℕ) : Type 0 where
  pub order : i < j
  pub within : j < length rs
  pub first : (d : StopRow) → is_some (left_at (slice_index_or rs i d)) ≡ true
  pub last : (d : StopRow) → is_some (left_at (slice_index_or rs j d)) ≡ true
  pub none : (k : ℕ) (d : StopRow) → i < k → k < j → is_some (left_at (slice_index_or rs k d)) ≡ false

-- the neighbours of which one stands before an index and the other not before it, if there are any
abbrev pub IsSpanAt : List StopRow → Option Span → ℕ → Type 0
IsSpanAt rs None n = HaveNone rs 0 n ⊎ HaveNone rs n (length rs)
IsSpanAt rs (Some s) n = (s.before < n) × (n ≤ s.after) × AreNeighbours rs s.before s.after

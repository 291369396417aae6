-- What contracts see of a board: what is left, what waits, and their bounds.
use Rattle.std.specs.Prelude.{◌≡◌, ℕ, ◌+◌, ◌*◌, ◌/◌, ◌≤◌, ◌&&◌, Bool, true, false, List, [], ◌∷◌, length, map, All, bytes_eq, count_by, Option, Some, None, ℤ, pos, ◌+ℤ◌, ◌-ℤ◌, ◌*ℤ◌, int_le}
use Rattle.std.specs.Int.{int_max}
use Rattle.std.specs.List.{list_any}
use Rattle.std.specs.Ordering.{is_lt}
use Rattle.gtfs_days.specs.Service.{service_days}
use Rattle.gtfs_days.specs.declared.zone.Zone.{Zone}
use Rattle.gtfs_rows.specs.Content.{Content}
use Rattle.gtfs_rows.specs.Departures.{is_member}
use Rattle.gtfs_rows.specs.Key.{Key, key_cmp}
use Rattle.gtfs_board.specs.BoardLines.{Listed}

-- the departures that are left, the keys that wait in memory, and with what the board was opened: the number of lanes, the
-- latest second at which a run departs, the instant from which it looks, the one before which it ends, and the zone
pub record BoardValue : Type 0 where
  pub rest : List Listed
  pub queue : List Key
  pub lanes : ℕ
  pub latest : ℕ
  pub start : ℤ
  pub until : ℤ
  pub zone : Zone
  pub steps : ℕ

abbrev pub keys_of : List Listed → List Key
keys_of ds = map (λ d. d.key) ds

-- the feed has a stop of this id
abbrev pub is_stop : Content → List ℕ → Bool
is_stop f s = list_any (λ stop. bytes_eq stop.stop_id s) f.stops

-- the instant from which a board looks
abbrev pub start_of : ℤ → Option Key → ℤ
start_of from None = from
start_of from (Some k) = int_max from k.instant

-- the first of what is left comes first of what waits too
abbrev pub FirstIsLeast : List Listed → List Key → Type 0
FirstIsLeast [] queue = queue ≡ []
FirstIsLeast (d ∷ ds) queue = (is_member d.key queue ≡ true) × All (λ k. is_lt (key_cmp k d.key) ≡ false) queue

-- no origin lies further than this from midnight UTC of its date, in seconds
abbrev pub origin_distance : ℕ
origin_distance = 93_599

-- how many days in a row can hold departures at one instant, where none is later than this after its origin
abbrev pub width : ℕ → ℕ
width latest = (latest + 2 * origin_distance) / 86_400 + 1

-- what waits is left, its least is the first that is left, and it is within its bound
pub record IsQueued (b : BoardValue) : Type 0 where
  pub within : All (λ k. is_member k (keys_of b.rest) ≡ true) b.queue
  pub first : FirstIsLeast b.rest b.queue
  pub bounded : length b.queue ≤ b.lanes * width b.latest

-- the instant of the first that is left, or the last of the span where nothing is left
abbrev pub first_instant : ℤ → List Listed → ℤ
first_instant until [] = until -ℤ pos 1
first_instant until (d ∷ ds) = d.key.instant

abbrev pub instant_reached : BoardValue → ℤ
instant_reached b = first_instant b.until b.rest

-- no day that begins before this has a departure at or above an instant
abbrev pub low_mark : ℕ → ℤ → ℤ
low_mark latest start = start -ℤ pos (latest + origin_distance)

-- a service day that may have been opened for a board that looks from a low mark on and stands at an instant
abbrev pub may_be_opened : ℤ → ℤ → ℤ → Bool
may_be_opened low at d = int_le low (d *ℤ pos 86_400) && int_le (d *ℤ pos 86_400) (at +ℤ pos origin_distance)

-- how many those are
abbrev pub reach : ℕ → ℤ → ℤ → ℕ
reach latest start at = count_by (may_be_opened (low_mark latest start) at) service_days

-- how many steps the days may have cost that may have been opened: each one a lane
abbrev pub steps_for_days : BoardValue → ℕ
steps_for_days b = b.lanes * reach b.latest b.start (instant_reached b)

-- how many steps were made, and how many of them may have been made for days
pub record StepCount : Type 0 where
  pub made : ℕ
  pub for_days : ℕ

abbrev pub step_count : BoardValue → StepCount
step_count b = record { made = b.steps; for_days = steps_for_days b }

-- while so many departures were taken, each cost a step at most, beside the steps for days
abbrev pub AreStepsWithin : ℕ → StepCount → StepCount → Type 0
AreStepsWithin departures old new = new.made + old.for_days ≤ old.made + departures + new.for_days

-- what a board was opened with stays
pub record SameSettings (b c : BoardValue) : Type 0 where
  pub lanes : c.lanes ≡ b.lanes
  pub latest : c.latest ≡ b.latest
  pub start : c.start ≡ b.start
  pub until : c.until ≡ b.until
  pub zone : c.zone ≡ b.zone

-- Merges of one feed until a service day and of the other from it on.
-- The rule is this project's. The day is the service day (GTFS Schedule Reference, stop_times.txt: a time after 24:00:00 belongs to the
-- day before).
use Rattle.std.specs.Prelude.{◌≡◌, ◌&&◌, ℕ, Bool, true, List, Option, Some, None, ℤ}
use Rattle.gtfs_days.specs.Cut.{is_in}
use Rattle.gtfs_days.specs.declared.cut.Cut.{Cut}
use Rattle.gtfs_days.specs.declared.cut.Cut.TheVariants.{Before, From}
use Rattle.gtfs_rows.specs.Content.{Content}
use Rattle.gtfs_rows.specs.Departures.{Origins, departs_at, is_departure}
use Rattle.gtfs_rows.specs.Key.{Key}
use Rattle.gtfs_rows.specs.TrimmedContent.{first_part, second_part, trimmed}
use Rattle.gtfs_times.specs.Filling.{timed}
use Rattle.gtfs_times.specs.declared.times.Times.{Times}
use Rattle.gtfs_merge.specs.Merged.{merged}
use Rattle.gtfs_merge.specs.NearStops.{nearness}

-- what is merged: both feeds, with a cutoff the first one before it and the second one from it on
abbrev pub merged_as : Option ℕ → Option ℤ → Content → Content → Content
merged_as near cutoff a b = merged (nearness near) (first_part cutoff a) (second_part cutoff b)

-- the service days that a cutoff leaves to the first feed, and to the second one: all where there is none
abbrev pub is_first_day : Option ℤ → ℤ → Bool
is_first_day None day = true
is_first_day (Some cutoff) day = is_in (Before cutoff) day

abbrev pub is_second_day : Option ℤ → ℤ → Bool
is_second_day None day = true
is_second_day (Some cutoff) day = is_in (From cutoff) day

-- what is left of a feed departs as the feed does, on these service days alone, also at the place of each stop
pub record DepartsOn (has : ℤ → Bool) (f left : Content) : Type 0 where
  pub departures : (times : Times) (origin : Origins) (k : Key)
      → is_departure (timed times left) origin k ≡ (is_departure (timed times f) origin k && has k.day)
  pub places : (times : Times) (origin : Origins) (s : List ℕ) (k : Key)
      → departs_at (timed times left) origin s k ≡ (departs_at (timed times f) origin s k && has k.day)

-- a feed on one side of a service day departs on the days of that side
abbrev pub DepartsInPart : Cut → Content → Type 0
DepartsInPart cut f = DepartsOn (is_in cut) f (trimmed cut f)

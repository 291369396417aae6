-- Above which candidates a board begins.
use Rattle.std.specs.Prelude.{◌<◌, ◌&&◌, ◌≤ℤ◌, ℕ, ℤ, Bool, Option, length, int_le}
use Rattle.gtfs_days.specs.Service.{first_service_day}
use Rattle.gtfs_rows.specs.declared.parts.Parts.{Parts}
use Rattle.gtfs_rows.specs.Departures.{is_above}
use Rattle.gtfs_rows.specs.Key.{Key}
use Rattle.gtfs_board.specs.ShownCandidates.{candidate_key}
use Rattle.gtfs_board.specs.declared.upcoming.candidate.Candidate.{Candidate}

-- a departure of the feed, as far as a floor compares with it
pub record IsNumbered (p : Parts) (lanes : ℕ) (c : Candidate) : Type 0 where
  pub trip : c.trip < length p.trips
  pub lane : c.lane < lanes
  pub day : first_service_day ≤ℤ c.day

-- the key of a candidate is not before an instant, and above a key if there is one
abbrev pub is_from : Parts → ℤ → Option Key → Candidate → Bool
is_from p from after c = int_le from c.instant && is_above after (candidate_key p c)

-- The values of the options of `gtfs timetable`.
use Rattle.std.specs.Prelude.{◌≡◌, ℕ, ℤ, Bool, bytes_eq, codes, if◌then◌else◌, is_some, List, [], ◌∷◌, Option, Some, None, Ok}
use Rattle.std.specs.Result.{result_ok}
use Rattle.clap.specs.Words.{Text}
use Rattle.gtfs_field.specs.Kinds.{date_of}
use Rattle.gtfs_times.specs.declared.times.Times.{Times}
use Rattle.gtfs_commands.specs.Words.{TimetableTexts}
use Rattle.gtfs_cli.specs.SharedOptions.{first_of_bad, times_of}

-- the direction of the trips, if one is given; its text has to be 0 or 1
abbrev pub direction_of : Option Text → Option (Option ℕ)
direction_of None = Some None
direction_of (Some text) = if bytes_eq text (codes "0") then Some (Some 0) else (if bytes_eq text (codes "1") then Some (Some 1) else None)

-- the options whose texts are judged, in the order of the usage, and whether each has a value; the date need have no service
abbrev pub judged_timetable : TimetableTexts → List (Text × Bool)
judged_timetable asked = (codes "--date", is_some (result_ok (date_of asked.date))) ∷ (codes "--direction", is_some (direction_of asked.direction)) ∷ []

-- the first of them that has none
abbrev pub first_bad_timetable : TimetableTexts → Option Text
first_bad_timetable asked = first_of_bad (judged_timetable asked)

-- what the options ask for
pub record TimetableRequest : Type 0 where
  pub day : ℤ
  pub direction : Option ℕ
  pub times : Times

-- each is the value of its text, and the times are those of the flag
pub record IsTimetableRequest (asked : TimetableTexts) (r : TimetableRequest) : Type 0 where
  pub day : date_of asked.date ≡ Ok r.day
  pub direction : direction_of asked.direction ≡ Some r.direction
  pub times : times_of asked.interpolate ≡ r.times

-- Options whose texts are judged, the service day that a text is, and the flag that none judges.
use Rattle.std.specs.Prelude.{Bool, true, false, not, find, if◌then◌else◌, List, Option, Some, None, option_map, Result, Ok, Err, ℤ}
use Rattle.clap.specs.Words.{Text}
use Rattle.gtfs_field.specs.Kinds.{date_of}
use Rattle.gtfs_field.specs.declared.fault.FieldFault.{FieldFault}
use Rattle.gtfs_days.specs.Service.{is_service_day}
use Rattle.gtfs_times.specs.declared.times.Times.{Times}
use Rattle.gtfs_times.specs.declared.times.Times.TheVariants.{Given, Interpolated}

-- the first option that has no value, where of each is said whether it has one
abbrev pub first_of_bad : List (Text × Bool) → Option Text
first_of_bad options = option_map (λ o. o.0) (find (λ o. not o.1) options)

-- a date that is a service day
abbrev pub service_day : Result ℤ FieldFault → Option ℤ
service_day (Ok d) = if is_service_day d then Some d else None
service_day (Err fault) = None

-- that of a text that may be missing, if it is such a day
abbrev pub day_if_given : Option Text → Option (Option ℤ)
day_if_given None = Some None
day_if_given (Some text) = option_map Some (service_day (date_of text))

-- the times that are asked for: with the flag, rows without times have times of an even pace
abbrev pub times_of : Bool → Times
times_of true = Interpolated
times_of false = Given

-- The numbers of the choices; those of stop times are handed on.
-- GTFS Schedule Reference, the fields of type "Enum" of stops.txt, trips.txt, frequencies.txt and transfers.txt.
use Rattle.std.specs.Prelude.{ℕ}
use Rattle.gtfs_rows.specs.declared.row_choices.LocationType.{LocationType}
use Rattle.gtfs_rows.specs.declared.row_choices.LocationType.TheVariants as location
use Rattle.gtfs_rows.specs.declared.row_choices.WheelchairBoarding.{WheelchairBoarding}
use Rattle.gtfs_rows.specs.declared.row_choices.WheelchairBoarding.TheVariants as boarding
use Rattle.gtfs_rows.specs.declared.row_choices.Direction.{Direction}
use Rattle.gtfs_rows.specs.declared.row_choices.Direction.TheVariants as direction
use Rattle.gtfs_rows.specs.declared.row_choices.WheelchairAccessible.{WheelchairAccessible}
use Rattle.gtfs_rows.specs.declared.row_choices.WheelchairAccessible.TheVariants as wheelchair
use Rattle.gtfs_rows.specs.declared.row_choices.BikesAllowed.{BikesAllowed}
use Rattle.gtfs_rows.specs.declared.row_choices.BikesAllowed.TheVariants as bikes
use Rattle.gtfs_rows.specs.declared.row_choices.ExactTimes.{ExactTimes}
use Rattle.gtfs_rows.specs.declared.row_choices.ExactTimes.TheVariants as exact
use Rattle.gtfs_rows.specs.declared.row_choices.TransferType.{TransferType}
use Rattle.gtfs_rows.specs.declared.row_choices.TransferType.TheVariants as transfer
pub use Rattle.gtfs_stop_times.specs.StopTimeChoices.{drop_off_code, pickup_code, timepoint_code}

abbrev pub location_code : LocationType → ℕ
location_code location.Stop = 0
location_code location.Station = 1
location_code location.Entrance = 2
location_code location.Node = 3
location_code location.BoardingArea = 4

abbrev pub boarding_code : WheelchairBoarding → ℕ
boarding_code boarding.Unknown = 0
boarding_code boarding.Possible = 1
boarding_code boarding.NotPossible = 2

abbrev pub direction_code : Direction → ℕ
direction_code direction.One = 0
direction_code direction.Opposite = 1

abbrev pub wheelchair_code : WheelchairAccessible → ℕ
wheelchair_code wheelchair.Unknown = 0
wheelchair_code wheelchair.Accessible = 1
wheelchair_code wheelchair.NotAccessible = 2

abbrev pub bikes_code : BikesAllowed → ℕ
bikes_code bikes.Unknown = 0
bikes_code bikes.Allowed = 1
bikes_code bikes.NotAllowed = 2

abbrev pub exact_code : ExactTimes → ℕ
exact_code exact.Frequency = 0
exact_code exact.Schedule = 1

abbrev pub transfer_code : TransferType → ℕ
transfer_code transfer.Recommended = 0
transfer_code transfer.Timed = 1
transfer_code transfer.MinimumTime = 2
transfer_code transfer.NotPossible = 3
transfer_code transfer.InSeat = 4
transfer_code transfer.Reboard = 5

-- The numbers of the choices of a stop time.
-- GTFS Schedule Reference, the fields of type "Enum" of stop_times.txt.
use Rattle.std.specs.Prelude.{ℕ}
use Rattle.gtfs_stop_times.specs.declared.stop_time_choices.PickupType.{PickupType}
use Rattle.gtfs_stop_times.specs.declared.stop_time_choices.PickupType.TheVariants as pickup
use Rattle.gtfs_stop_times.specs.declared.stop_time_choices.DropOffType.{DropOffType}
use Rattle.gtfs_stop_times.specs.declared.stop_time_choices.DropOffType.TheVariants as drop_off
use Rattle.gtfs_stop_times.specs.declared.stop_time_choices.Timepoint.{Timepoint}
use Rattle.gtfs_stop_times.specs.declared.stop_time_choices.Timepoint.TheVariants as timepoint

abbrev pub pickup_code : PickupType → ℕ
pickup_code pickup.Regular = 0
pickup_code pickup.None = 1
pickup_code pickup.Phone = 2
pickup_code pickup.Driver = 3

abbrev pub drop_off_code : DropOffType → ℕ
drop_off_code drop_off.Regular = 0
drop_off_code drop_off.None = 1
drop_off_code drop_off.Phone = 2
drop_off_code drop_off.Driver = 3

abbrev pub timepoint_code : Timepoint → ℕ
timepoint_code timepoint.Approximate = 0
timepoint_code timepoint.Exact = 1

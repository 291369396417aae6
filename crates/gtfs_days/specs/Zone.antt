-- What a zone says of service days and of instants, in the words of `jiff`.
-- Seconds of the epoch count from 1970-01-01T00:00:00Z. A day is its number, 0 for 1970-01-01.
use Rattle.std.specs.Prelude.{◌≡◌, ◌<◌, ℕ, ◌+◌, ◌*◌, ◌⊎◌, List, length, Ok, IsErr, ℤ, pos, ◌+ℤ◌, ◌-ℤ◌, ◌*ℤ◌}
use Rattle.jiff_core.specs.Calendar.{days_from_civil, IsCivilDate}
use Rattle.jiff_core.specs.Timestamp.{nanos_of_seconds, IsTimestampNanos}
use Rattle.jiff_core.specs.declared.civil.date.Date.{Date}
use Rattle.jiff_core.specs.declared.offset.Offset.{Offset}
use Rattle.jiff_tz.specs.Ambiguous.{compatible_offset}
use Rattle.jiff_tz.specs.Tzif as Table
use Rattle.jiff_tz.specs.TzifReader.{read_tzif}
use Rattle.jiff_tz.specs.declared.tzif.Tzif.{Tzif}
use Rattle.gtfs_field.specs.Calendar.{date_of_day}
use Rattle.gtfs_days.specs.Noon.{noon}
use Rattle.gtfs_days.specs.declared.civil.Civil.{Civil}
use Rattle.gtfs_days.specs.declared.zone.Zone.{Zone}

-- the table of transitions and the rule that the zone's file states
abbrev pub transitions_of : Zone → Tzif
transitions_of z = z.table

-- how many bytes of a zone file are read at most
abbrev pub read_limit : ℕ
read_limit = 1_048_576

abbrev pub IsTooLong : List ℕ → Type 0
IsTooLong bytes = read_limit < length bytes

-- the bytes are not a zone file of `jiff` (TZif, RFC 9636)
abbrev pub HasFault : List ℕ → Type 0
HasFault bytes = IsErr (read_tzif bytes)

-- the bytes are too many, or no zone file, or the rule at their end contradicts the last row of their table
abbrev pub IsUnreadable : List ℕ → Type 0
IsUnreadable bytes = IsTooLong bytes ⊎ (HasFault bytes ⊎ Table.HasBadRule (read_tzif bytes))

-- the zone is what the bytes say, and its rule agrees with its table
pub record IsZoneOf (bytes : List ℕ) (z : Zone) : Type 0 where
  pub read : read_tzif bytes ≡ Ok (Table.tzif_view (transitions_of z))
  pub agrees : Table.RuleAgrees (transitions_of z)

-- the offset by which the zone reads noon of a date: in a gap that before it, and of two the one of the earlier instant
abbrev pub noon_offset : Zone → Date → Offset
noon_offset z d = compatible_offset (Table.ambiguous_at (transitions_of z) (noon d))

-- where the service day of that number begins: noon of its date less twelve hours, in seconds of the epoch
-- (GTFS Schedule Reference, "Field Types", Time)
abbrev pub zone_origin : Zone → ℤ → ℤ
zone_origin z n = n *ℤ pos 86_400 -ℤ (noon_offset z (date_of_day n)).seconds

-- `jiff` has an instant that many seconds of the epoch
abbrev pub IsInstant : ℤ → Type 0
IsInstant x = IsTimestampNanos (nanos_of_seconds x)

-- what the zone's clock shows at an instant: the offset that the zone states there, and the civil time that it makes
pub record IsCivil (z : Zone) (x : ℤ) (c : Civil) : Type 0 where
  pub date : IsCivilDate c.year c.month c.day
  pub hour : c.hour < 24
  pub minute : c.minute < 60
  pub second : c.second < 60
  pub offset : c.offset ≡ (Table.offset_at (transitions_of z) (nanos_of_seconds x)).seconds
  pub clock : days_from_civil c.year c.month c.day *ℤ pos 86_400 +ℤ pos (3600 * c.hour + 60 * c.minute + c.second) ≡ x +ℤ c.offset

-- the zones say the same: of each day one origin, and of each instant one local clock
pub record SaysSame (y z : Zone) : Type 0 where
  pub origin : (n : ℤ) → zone_origin y n ≡ zone_origin z n
  pub clock : (x : ℤ) (c d : Civil) → IsCivil y x c → IsCivil z x d → c ≡ d
  pub shows : (x : ℤ) (c : Civil) → IsCivil y x c → IsCivil z x c

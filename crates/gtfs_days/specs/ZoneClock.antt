-- What a look at a zone's clock tells of the instants that follow.
use Rattle.std.specs.Prelude.{◌≡◌, ℕ, ◌/◌, ◌%◌, ℤ, pos, ◌+ℤ◌, ◌*ℤ◌, ◌≤ℤ◌, ◌<ℤ◌}
use Rattle.jiff_core.specs.Calendar.{days_from_civil, IsCivilDate}
use Rattle.jiff_core.specs.Timestamp.{nanos_of_seconds}
use Rattle.jiff_tz.specs.Tzif as Table
use Rattle.gtfs_days.specs.Zone.{transitions_of, IsInstant}
use Rattle.gtfs_days.specs.declared.civil.Civil.{Civil}
use Rattle.gtfs_days.specs.declared.zone.Zone.{Zone}
use Rattle.gtfs_days.specs.declared.zone_clock.Known.{Known}

-- what a clock shows so many seconds after midnight of the day that it shows
abbrev pub after_midnight : Civil → ℕ → Civil
after_midnight c n = record {
  year = c.year;
  month = c.month;
  day = c.day;
  hour = n / 3600;
  minute = (n / 60) % 60;
  second = n % 60;
  offset = c.offset;
}

-- the zone has the offset that is kept at each of these instants, all of which lie on the day that is kept
pub record IsKnown (z : Zone) (k : Known) : Type 0 where
  pub date : IsCivilDate k.shown.year k.shown.month k.shown.day
  pub midnight : days_from_civil k.shown.year k.shown.month k.shown.day *ℤ pos 86_400 ≡ k.midnight +ℤ k.shown.offset
  pub low : k.midnight ≤ℤ k.from
  pub high : k.until ≤ℤ (k.midnight +ℤ pos 86_400)
  pub offset : (x : ℤ) → IsInstant x → k.from ≤ℤ x → x <ℤ k.until → k.shown.offset ≡ (Table.offset_at (transitions_of z) (nanos_of_seconds x)).seconds

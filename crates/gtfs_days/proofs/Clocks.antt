-- Dates of days, and what a zone's clock shows.
use Rattle.std.proofs.Common.{◌≡◌, ◌<◌, ℕ, ℤ, pos, negsuc, ◌+ℤ◌, ◌-ℤ◌, ◌*ℤ◌, ◌≤ℤ◌, unsigned_abs, ◌∙◌, sym, ap, ◌+◌, ◌*◌, arith}
use Rattle.jiff_core.specs.Calendar.{IsWithin}
use Rattle.jiff_core.specs.Date.{epoch_day}
use Rattle.jiff_core.specs.DateTime.{civil_nanos, civil_seconds}
use Rattle.jiff_core.specs.Timestamp.{nanos_of_seconds}
use Rattle.jiff_core.specs.declared.civil.date.Date.{Date}
use Rattle.jiff_core.specs.declared.civil.datetime.DateTime.{DateTime}
use Rattle.jiff_core.specs.declared.offset.Offset.{Offset}
use Rattle.jiff_core.proofs.DateLemmas.{epoch_day_injective}
use Rattle.jiff_core.proofs.DateTimeLemmas.{civil_nanos-civil_seconds}
use Rattle.jiff_core.proofs.SignedLemmas.{signed_arith}
use Rattle.jiff_tz.specs.Tzif as Table
use Rattle.gtfs_field.specs.Calendar.{date_of_day, date_after-number}
use Rattle.gtfs_days.specs.declared.civil.Civil.{Civil}
use Rattle.gtfs_days.specs.declared.zone.Zone.{Zone}
use Rattle.gtfs_days.specs.Noon.{shown}
use Rattle.gtfs_days.specs.Service.{first_service_day}
use Rattle.gtfs_days.specs.Zone.{transitions_of, noon_offset, zone_origin, IsCivil}
use Rattle.gtfs_days.proofs.Weekdays.{distance}

-- the date of a day has its number
pub epoch_day-date_of_day : (n : ℤ) → first_service_day ≤ℤ n → n ≤ℤ pos 2_932_896 → epoch_day (date_of_day n) ≡ n
epoch_day-date_of_day n low high =
    let there = distance first_service_day n low in
    date_after-number (unsigned_abs (n -ℤ negsuc 25_566)) (omega (arith, signed_arith, there)) ∙ sym there

-- whole seconds on both sides have no fraction
whole : (s x o : ℤ) (n : ℕ) → n < 1_000_000_000 → s *ℤ pos 1_000_000_000 +ℤ pos n ≡ nanos_of_seconds x +ℤ nanos_of_seconds o → s ≡ x +ℤ o
whole s x o n h e = omega (arith, signed_arith)

-- a clock that is as far ahead of an instant as the zone says
pub civil_from : (z : Zone) (x : ℤ) (clock : DateTime) (o : Offset) → o.seconds ≡ (Table.offset_at (transitions_of z) (nanos_of_seconds x)).seconds → civil_nanos clock ≡ nanos_of_seconds x +ℤ nanos_of_seconds o.seconds → IsCivil z x (shown clock o)
unfolding civil_seconds
civil_from z x clock o offset nanos =
    let seconds = whole (civil_seconds clock) x o.seconds clock.time.subsec_nanosecond clock.time.subsec_in (rw (← civil_nanos-civil_seconds) nanos) in
    record {
      date = (clock.date.year_in, clock.date.month_in, clock.date.day_in);
      hour = clock.time.hour_in;
      minute = clock.time.minute_in;
      second = clock.time.second_in;
      offset = offset;
      clock = omega (arith, signed_arith, seconds);
    }

-- an origin lies within the greatest offset of its day
pub zone_origin-near : (z : Zone) (n : ℤ) → IsWithin 93_599 ((n *ℤ pos 86_400) -ℤ zone_origin z n)
zone_origin-near z n =
    let ahead = (noon_offset z (date_of_day n)).in_range in
    (omega (arith, signed_arith), omega (arith, signed_arith))

-- the days and the seconds of a day that make a number
split : (m n : ℤ) (s t : ℕ) → s < 86_400 → t < 86_400 → m *ℤ pos 86_400 +ℤ pos s ≡ n *ℤ pos 86_400 +ℤ pos t → (m ≡ n) × (s ≡ t)
split m n s t h k e = (omega (arith, signed_arith), omega (arith, signed_arith))

-- a zone's clock shows one thing at an instant
pub civil_unique : (z : Zone) (x : ℤ) (a b : Civil) → IsCivil z x a → IsCivil z x b → a ≡ b
civil_unique z x a b f g =
    let date_a : Date = record { year = a.year; month = a.month; day = a.day; year_in = f.date.0; month_in = f.date.1; day_in = f.date.2 } in
    let date_b : Date = record { year = b.year; month = b.month; day = b.day; year_in = g.date.0; month_in = g.date.1; day_in = g.date.2 } in
    let offset : a.offset ≡ b.offset = f.offset ∙ sym g.offset in
    let same : epoch_day date_a *ℤ pos 86_400 +ℤ pos (3600 * a.hour + 60 * a.minute + a.second) ≡ epoch_day date_b *ℤ pos 86_400 +ℤ pos (3600 * b.hour + 60 * b.minute + b.second) =
    f.clock ∙ ap (λ o. x +ℤ o) offset ∙ sym g.clock in
    let parts = split (epoch_day date_a) (epoch_day date_b) (3600 * a.hour + 60 * a.minute + a.second) (3600 * b.hour + 60 * b.minute + b.second) (omega (arith, f.hour, f.minute, f.second)) (omega (arith, g.hour, g.minute, g.second)) same in
    let date = epoch_day_injective date_a date_b parts.0 in
    let time = parts.1 in
    let hour : a.hour ≡ b.hour = omega (arith, f.minute, f.second, g.minute, g.second) in
    let minute : a.minute ≡ b.minute = omega (arith, f.second, g.second) in
    let second : a.second ≡ b.second = omega arith in
    λ i. record { year = date.0 i; month = date.1 i; day = date.2 i; hour = hour i; minute = minute i; second = second i; offset = offset i }

-- What is kept of a look at a zone's clock.
use Rattle.std.proofs.Common.{◌≡◌, ◌∙◌, ℕ, ◌+◌, ◌*◌, ◌<◌, ℤ, pos, ◌+ℤ◌, ◌-ℤ◌, ◌≤ℤ◌, ◌<ℤ◌, unsigned_abs, ap, sym, subst, arith}
use Rattle.std.proofs.lemmas.Int.{ints}
use Rattle.jiff_core.proofs.SignedLemmas.{signed_arith}
use Rattle.jiff_core.specs.Timestamp.{nanos_of_seconds}
use Rattle.jiff_tz.specs.Tzif as Table
use Rattle.gtfs_field.proofs.NumberFacts.{abs-above}
use Rattle.gtfs_days.specs.Zone.{transitions_of, IsCivil, IsInstant}
use Rattle.gtfs_days.specs.ZoneClock.{after_midnight, IsKnown}
use Rattle.gtfs_days.specs.declared.civil.Civil.{Civil}
use Rattle.gtfs_days.specs.declared.zone.Zone.{Zone}
use Rattle.gtfs_days.specs.declared.zone_clock.Known.{Known}

abbrev pub second_of : Civil → ℕ
second_of c = 3600 * c.hour + 60 * c.minute + c.second

-- the clock shows at each of the instants what the time since midnight makes of the day
pub known_shows : (z : Zone) (k : Known) (x : ℤ) → IsInstant x → IsKnown z k → k.from ≤ℤ x → x <ℤ k.until → IsCivil z x (after_midnight k.shown (unsigned_abs (x -ℤ k.midnight)))
known_shows z k x instant known from until =
    let since : pos (unsigned_abs (x -ℤ k.midnight)) ≡ x -ℤ k.midnight = abs-above x k.midnight (omega (arith, ints, known.low, from)) in
    let day : unsigned_abs (x -ℤ k.midnight) < 86_400 = omega (arith, signed_arith, since, known.high, until) in
    record {
      date = known.date;
      hour = omega (arith, day);
      minute = omega arith;
      second = omega arith;
      offset = known.offset x instant from until;
      clock = omega (arith, signed_arith, since, known.midnight);
    }

-- a look at the zone tells of the instants after it, as long as the offset stays
pub look_tells : (z : Zone) (k : Known) (i e : ℤ) → k.from ≡ i → k.until ≤ℤ e → k.until ≤ℤ (k.midnight +ℤ pos 86_400) → k.midnight ≡ i -ℤ pos (second_of k.shown) → IsInstant i → IsCivil z i k.shown
    → ((x : ℤ) → IsInstant x → i ≤ℤ x → x <ℤ e → Table.offset_at (transitions_of z) (nanos_of_seconds x) ≡ Table.offset_at (transitions_of z) (nanos_of_seconds i)) → IsKnown z k
look_tells z k i e from until day midnight instant shown keeps = record {
  date = shown.date;
  midnight = omega (arith, signed_arith, midnight, shown.clock);
  low = omega (arith, signed_arith, from, midnight);
  high = day;
  offset = λ x is low high. shown.offset ∙ sym (ap (λ o. o.seconds) (keeps x is (omega (arith, signed_arith, from, low)) (omega (arith, signed_arith, until, high))));
}

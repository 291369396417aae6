-- The key of a departure, and the order of keys.
use Rattle.std.specs.Prelude.{ℕ, ◌^◌, ◌<◌, ◌≤◌, ℤ, pos, negsuc, ◌≤ℤ◌, unsigned_abs, List}
use Rattle.std.specs.declared.cmp.Ordering.{Ordering}
use Rattle.std.specs.Ordering.{nat_cmp, int_cmp, on, then_cmp}
use Rattle.gtfs_field.specs.TextOrder.{text_cmp}

-- the instant in seconds of the epoch, the trip's id, the second of the service day at which the run starts, the
-- sequence of the stop's row, and the number of the service day
pub record Key : Type 0 where
  pub instant : ℤ
  pub trip : List ℕ
  pub run : ℕ
  pub sequence : ℕ
  pub day : ℤ

-- by instant, then by trip, run, sequence and day
abbrev pub key_cmp : Key → Key → Ordering
key_cmp = then_cmp (on (λ k. k.instant) int_cmp)
    (then_cmp (on (λ k. k.trip) text_cmp)
    (then_cmp (on (λ k. k.run) nat_cmp)
    (then_cmp (on (λ k. k.sequence) nat_cmp)
    (on (λ k. k.day) int_cmp))))

-- the greatest second at which a run starts, and the greatest sequence of a row
abbrev pub last_run : ℕ
last_run = 3_599_999

abbrev pub last_sequence : ℕ
last_sequence = 2_147_483_647

-- a key that can be written so that it reads back: an instant of at most twelve digits, and a date of the years 1900 to 9999
pub record IsInRange (k : Key) : Type 0 where
  pub instant : unsigned_abs k.instant < 10 ^ 12
  pub run : k.run ≤ last_run
  pub sequence : k.sequence ≤ last_sequence
  pub day_from : negsuc 25_566 ≤ℤ k.day
  pub day_to : k.day ≤ℤ pos 2_932_896

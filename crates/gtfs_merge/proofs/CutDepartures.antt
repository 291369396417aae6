-- The departures of a feed on one side of a service day.
use Rattle.std.proofs.Common.{◌≡◌, Bool, true, false, List, [], ◌∷◌, Option, Some, None, refl, sym, ap, ◌∙◌, bytes_eq, ℤ, pos, ◌+ℤ◌, int_eq}
use Rattle.std.specs.Prelude.{◌&&◌, ◌||◌, ◌==◌}
use Rattle.std.specs.List.{list_any}
use Rattle.gtfs_field.proofs.ListFacts.{any_mapped}
use Rattle.gtfs_days.specs.Cut.{is_in}
use Rattle.gtfs_days.specs.Service.{is_active}
use Rattle.gtfs_days.specs.declared.cut.Cut.{Cut}
use Rattle.gtfs_days.specs.declared.cut.Cut.TheVariants.{Before, From}
use Rattle.gtfs_days.proofs.CutDays.{active-in-part}
use Rattle.gtfs_rows.specs.Content.{Content}
use Rattle.gtfs_rows.specs.Departures.{Origins, any_row, departs_from, runs_on}
use Rattle.gtfs_rows.specs.Key.{Key}
use Rattle.gtfs_rows.specs.Places.{is_in_place}
use Rattle.gtfs_rows.specs.Rows.{StopRow, Trip}
use Rattle.gtfs_rows.specs.Runs.{is_departure_row, is_run, passes_at}
use Rattle.gtfs_rows.specs.TrimmedContent.{first_part, second_part, trimmed, trimmed_row}
use Rattle.gtfs_times.specs.Filling.{timed}
use Rattle.gtfs_merge.specs.Cutoff.{DepartsInPart, DepartsOn, is_first_day, is_second_day}

-- a test that holds only where another does, of any of these
any-cut : {X : Type 0} (p q : X → Bool) (i : Bool) (xs : List X) → ((x : X) → p x ≡ (q x && i)) → list_any p xs ≡ (list_any q xs && i)
any-cut p q i [] h = refl
any-cut p q i (x ∷ xs) h = (λ j. h x j || any-cut p q i xs h j) ∙ either (q x) (list_any q xs) i
  where
    either : (a b i : Bool) → ((a && i) || (b && i)) ≡ ((a || b) && i)
    either true true true = refl
    either true true false = refl
    either true false true = refl
    either true false false = refl
    either false b i = refl

and-last : (a b i : Bool) → (a && (b && i)) ≡ ((a && b) && i)
and-last true b i = refl
and-last false b i = refl

and-true : (b : Bool) → b ≡ (b && true)
and-true true = refl
and-true false = refl

-- a test that stands within others may stand behind them all
moved-last : (a r q s i : Bool) → (a && (r && i) && q && s) ≡ ((a && r && q && s) && i)
moved-last false r q s i = refl
moved-last true false q s i = refl
moved-last true true q s true = and-true (q && s)
moved-last true true q s false = sym (none (q && s))
  where
    none : (b : Bool) → (b && false) ≡ false
    none true = refl
    none false = refl

module _ (c : Cut) (f : Content) where
  runs-cut : (t : Trip) (d : ℤ) → runs_on (trimmed c f) t d ≡ (runs_on f t d && is_in c d)
  runs-cut t d =
      any_mapped (λ s. bytes_eq s.service_id t.service_id && is_active s.service d) (trimmed_row c) f.services
      ∙ any-cut (λ s. bytes_eq s.service_id t.service_id && is_active (trimmed_row c s).service d) (λ s. bytes_eq s.service_id t.service_id && is_active s.service d) (is_in c d) f.services
      (λ s. ap (λ b. bytes_eq s.service_id t.service_id && b) (active-in-part c s.service d) ∙ and-last (bytes_eq s.service_id t.service_id) (is_active s.service d) (is_in c d))

  abbrev rows : Origins → (StopRow → Bool) → Key → Trip → Bool
  rows origin test k t = list_any (λ row. (row.stop_sequence == k.sequence) && is_departure_row t row && test row
      && int_eq k.instant (origin k.day +ℤ pos (passes_at t k.run row))) t.stop_rows

  departs-cut : (origin : Origins) (test : StopRow → Bool) (k : Key) → departs_from (trimmed c f) origin test k ≡ (departs_from f origin test k && is_in c k.day)
  departs-cut origin test k = any-cut
      (λ t. bytes_eq t.trip_id k.trip && runs_on (trimmed c f) t k.day && is_run t k.run && rows origin test k t)
      (λ t. bytes_eq t.trip_id k.trip && runs_on f t k.day && is_run t k.run && rows origin test k t)
      (is_in c k.day) f.trips
      (λ t. ap (λ b. bytes_eq t.trip_id k.trip && b && is_run t k.run && rows origin test k t) (runs-cut t k.day)
      ∙ moved-last (bytes_eq t.trip_id k.trip) (runs_on f t k.day) (is_run t k.run) (rows origin test k t) (is_in c k.day))

pub departs-in-part : (c : Cut) (f : Content) → DepartsInPart c f
departs-in-part c f = record {
  departures = λ times origin k. departs-cut c (timed times f) origin any_row k;
  places = λ times origin s k. departs-cut c (timed times f) origin (λ row. is_in_place f s row.stop_id) k;
}

whole : (f : Content) → DepartsOn (λ day. true) f f
whole f = record {
  departures = λ times origin k. and-true _;
  places = λ times origin s k. and-true _;
}

pub first-days : (cutoff : Option ℤ) (f : Content) → DepartsOn (is_first_day cutoff) f (first_part cutoff f)
first-days None f = whole f
first-days (Some d) f = departs-in-part (Before d) f

pub second-days : (cutoff : Option ℤ) (f : Content) → DepartsOn (is_second_day cutoff) f (second_part cutoff f)
second-days None f = whole f
second-days (Some d) f = departs-in-part (From d) f

-- The days that a calendar row covers.
use Rattle.std.proofs.Common.{◌≡◌, ℕ, ◌%◌, ◌<◌, Bool, true, false, Some, List, get_or, ℤ, pos, ◌+ℤ◌, ◌-ℤ◌, ◌<ℤ◌, ◌≤ℤ◌, unsigned_abs, to_z, of_z, to_z-of_z, FitsSigned, w32, refl, sym, ◌∙◌, ap, subst, arith}
use Rattle.std.specs.Int.{int_max, int_min}
use Rattle.std.proofs.lemmas.Bool.{and_parts, and_from, both_ways, false_from_ne_true}
use Rattle.std.proofs.lemmas.Int.{ints, clamps}
use Rattle.jiff_core.specs.Calendar.{weekday_number}
use Rattle.jiff_core.proofs.CalendarLemmas.{weekday_number-add}
use Rattle.jiff_core.proofs.SignedLemmas.{signed_arith, one_part}
use Rattle.gtfs_field.proofs.NumberFacts.{int_le-true, le-int_le}
use Rattle.gtfs_days.specs.declared.week.Week.{Week}
use Rattle.gtfs_days.specs.Service.{first_service_day, last_service_day, is_regular, IsFirst}

-- a number from `a` on is `a` and how far it lies after it
pub distance : (a e : ℤ) → a ≤ℤ e → e ≡ a +ℤ pos (unsigned_abs (e -ℤ a))
distance a e h = omega (arith, signed_arith, one_part (e -ℤ a))

-- a day has the weekday of one of the first seven from `first` on
same_weekday : (first e : ℤ) → first ≤ℤ e → weekday_number e ≡ weekday_number (first +ℤ pos (unsigned_abs (e -ℤ first) % 7))
same_weekday first e h =
    let far = weekday_number-add first e (unsigned_abs (e -ℤ first)) (distance first e h) in
    let near = weekday_number-add first (first +ℤ pos (unsigned_abs (e -ℤ first) % 7)) (unsigned_abs (e -ℤ first) % 7) refl in
    omega arith

-- a week without a named weekday names none at all
pub no_weekday : (days : List Bool) (first : ℤ) → ((k : ℕ) → k < 7 → get_or days (weekday_number (first +ℤ pos k)) false ≡ false) → (e : ℤ) → first ≤ℤ e → get_or days (weekday_number e) false ≡ false
no_weekday days first none e h = rw (same_weekday first e h) (none (unsigned_abs (e -ℤ first) % 7) (omega arith))

-- what a covered service day is, condition by condition
record IsCovered (w : Week) (e : ℤ) : Type 0 where
  low : first_service_day ≤ℤ e
  high : e ≤ℤ last_service_day
  start : w.start ≤ℤ e
  «end» : e ≤ℤ w.end
  named : get_or w.days (weekday_number e) false ≡ true

covered_from : (w : Week) (e : ℤ) → is_regular (Some w) e ≡ true → IsCovered w e
covered_from w e h =
    let all = and_parts _ _ h in
    let days = and_parts _ _ all.0 in
    let row = and_parts _ _ all.1 in
    let span = and_parts _ _ row.0 in
    record { low = int_le-true _ _ days.0; high = int_le-true _ _ days.1; start = int_le-true _ _ span.0; «end» = int_le-true _ _ span.1; named = row.1 }

regular_from : (w : Week) (e : ℤ) → IsCovered w e → is_regular (Some w) e ≡ true
regular_from w e h = and_from _ _ (and_from _ _ (le-int_le _ _ h.low) (le-int_le _ _ h.high)) (and_from _ _ (and_from _ _ (le-int_le _ _ h.start) (le-int_le _ _ h.«end»)) h.named)

-- the days on which the row can cover a service day from `from` on
pub record IsSpan (w : Week) (from first last : ℤ) : Type 0 where
  pub low : first_service_day ≤ℤ first
  pub high : first ≤ℤ pos 2_932_897
  pub from_on : from ≤ℤ first
  pub start_on : w.start ≤ℤ first
  pub least : (e : ℤ) → from ≤ℤ e → w.start ≤ℤ e → first ≤ℤ e
  pub service : last ≤ℤ last_service_day
  pub to_end : last ≤ℤ w.end
  pub greatest : (e : ℤ) → e ≤ℤ last_service_day → e ≤ℤ w.end → e ≤ℤ last

span_of : (w : Week) (from first last : ℤ) → first_service_day ≤ℤ from → from ≤ℤ pos 2_932_897 → w.start ≤ℤ pos 2_932_896 → first ≡ int_max from w.start → last ≡ int_min last_service_day w.end → IsSpan w from first last
span_of w from first last low high early f l = record {
  low = omega (arith, ints, clamps);
  high = omega (arith, ints, clamps);
  from_on = omega (arith, ints, clamps);
  start_on = omega (arith, ints, clamps);
  least = λ e h k. omega (arith, ints, clamps);
  service = omega (arith, ints, clamps);
  to_end = omega (arith, ints, clamps);
  greatest = λ e h k. omega (arith, ints, clamps);
}

-- the same of numbers as the code passes them
pub span_passed : (w : Week) (from start end first last : ℤ) → FitsSigned w32 from → FitsSigned w32 start → FitsSigned w32 end → start ≡ w.start → end ≡ w.end
    → first_service_day ≤ℤ from → from ≤ℤ pos 2_932_897 → start ≤ℤ pos 2_932_896
    → first ≡ int_max (to_z w32 (of_z w32 from)) (to_z w32 (of_z w32 start)) → last ≡ int_min last_service_day (to_z w32 (of_z w32 end)) → IsSpan w from first last
span_passed w from start end first last ff fs fe is_start is_end low high early f l =
    let f' : first ≡ int_max from w.start = rw (← is_start) (f ∙ ap (λ x. int_max x (to_z w32 (of_z w32 start))) (to_z-of_z ff) ∙ ap (int_max from) (to_z-of_z fs)) in
    let l' : last ≡ int_min last_service_day w.end = rw (← is_end) (l ∙ ap (int_min last_service_day) (to_z-of_z fe)) in
    span_of w from first last low high (rw (← is_start) early) f' l'

-- the day that many days after the first one, as the code adds them
pub day_passed : (first step : ℤ) (n : ℕ) → FitsSigned w32 first → FitsSigned w32 step → first_service_day ≤ℤ first → first ≤ℤ pos 2_932_897 → step ≡ pos n → n < 7
    → to_z w32 (of_z w32 (to_z w32 (of_z w32 first) +ℤ to_z w32 (of_z w32 step))) ≡ first +ℤ pos n
day_passed first step n ff fs low high is_step small =
    let fits : FitsSigned w32 (first +ℤ pos n) = omega (arith, signed_arith) in
    rw (to_z-of_z ff, to_z-of_z fs, is_step) (to_z-of_z fits)

-- the row names none of the n days from `first` on
abbrev pub NamesNone : Week → ℤ → ℕ → Type 0
NamesNone w first n = (k : ℕ) → k < n → get_or w.days (weekday_number (first +ℤ pos k)) false ≡ false

unnamed : (w : Week) (first : ℤ) (n : ℕ) → NamesNone w first n → (e : ℤ) → first ≤ℤ e → e <ℤ (first +ℤ pos n) → get_or w.days (weekday_number e) false ≡ false
unnamed w first n none e low high =
    let there = distance first e low in
    let F : ℤ → Type 0 = λ x. get_or w.days (weekday_number x) false ≡ false in
    subst F (sym there) (none (unsigned_abs (e -ℤ first)) (omega (arith, signed_arith)))

-- no day from `from` on is covered where the span ends before the row names one
pub none_before_end : (w : Week) (from first last : ℤ) (n : ℕ) → IsSpan w from first last → NamesNone w first n → last <ℤ (first +ℤ pos n) → (e : ℤ) → from ≤ℤ e → is_regular (Some w) e ≡ false
none_before_end w from first last n span none past e h = false_from_ne_true _ (λ yes.
    let day = covered_from w e yes in
    let low = span.least e h day.start in
    let high = span.greatest e day.high day.«end» in
    both_ways _ (unnamed w first n none e low (omega (arith, signed_arith))) day.named)

-- nor where it names none of seven days
pub none_in_week : (w : Week) (from first last : ℤ) → IsSpan w from first last → NamesNone w first 7 → (e : ℤ) → from ≤ℤ e → is_regular (Some w) e ≡ false
none_in_week w from first last span none e h = false_from_ne_true _ (λ yes.
    let day = covered_from w e yes in
    both_ways _ (no_weekday w.days first none e (span.least e h day.start)) day.named)

-- the first day that the row names in its span is the first that it covers
pub first_named : (w : Week) (from first last : ℤ) (n : ℕ) → IsSpan w from first last → first_service_day ≤ℤ from → NamesNone w first n → (first +ℤ pos n) ≤ℤ last → get_or w.days (weekday_number (first +ℤ pos n)) false ≡ true → IsFirst (is_regular (Some w)) from (first +ℤ pos n)
first_named w from first last n span service none within named = record {
  passes = regular_from w (first +ℤ pos n) (record {
    low = omega (arith, signed_arith, span.from_on);
    high = omega (arith, signed_arith, span.service);
    start = omega (arith, signed_arith, span.start_on);
    «end» = omega (arith, signed_arith, span.to_end);
    named = named;
  });
  not_before = omega (arith, signed_arith, span.from_on);
  least = λ e low high. false_from_ne_true _ (λ yes.
      let day = covered_from w e yes in
      both_ways _ (unnamed w first n none e (span.least e low day.start) high) day.named);
}

-- A service runs on no day where it runs on none of the days that it names.
use Rattle.std.proofs.Common.{◌≡◌, ℕ, ◌+◌, ◌<◌, Bool, true, false, List, [], ◌∷◌, map, length, get_or, Option, Some, None, ℤ, pos, ◌+ℤ◌, ◌≤ℤ◌, refl, sym, ap, subst, ◌∙◌, inl, inr, arith}
use Rattle.std.specs.Prelude.{◌&&◌, ◌||◌, not, is_none, is_some, unsigned_abs, ◌-ℤ◌, int_le}
use Rattle.std.specs.List.{list_any, range_with_len}
use Rattle.std.specs.List.Sorted.{IsPermutation}
use Rattle.std.specs.Ordering.{int_eq}
use Rattle.std.proofs.lemmas.Bool.{cases_Bool, or_cases}
use Rattle.std.proofs.lemmas.Int.{ints}
use Rattle.std.proofs.lemmas.List.Folds.{list_any-append, list_any_at}
use Rattle.std.proofs.lemmas.List.FromFn.{get_or-map-range_with_len, length-map-range_with_len}
use Rattle.std.proofs.lemmas.List.Sorted.{list_any-IsPermutation}
use Rattle.gtfs_field.proofs.NumberFacts.{abs-above, cases_int, int_eq-true as same_day, int_le-true as at_or_after}
use Rattle.gtfs_field.proofs.ListFacts.{any_silent}
use Rattle.gtfs_days.specs.Service.{ServiceDates, covered_by, covers, first_service_day, has_exception, is_active, is_added, is_removed, is_service_day, IsFirstIfAny}
use Rattle.gtfs_days.specs.declared.exception.Exception.{Exception}
use Rattle.gtfs_days.specs.declared.week.Week.{Week}
use Rattle.gtfs_days.proofs.ActiveDays.{before_service}
use Rattle.gtfs_schema.specs.Calendars.{days_named, days_of_week}
use Rattle.gtfs_trip_rules.specs.ServiceCalendars.{is_never_active}
use Rattle.gtfs_schema.proofs.BoolFacts.{and_parts, or_left, or_right}

-- ---- days of a calendar row

in_row : (test : ℤ → Bool) (w : Week) (d : ℤ) → covers w d ≡ true → test d ≡ true → list_any test (days_of_week (Some w)) ≡ true
in_row test w d covered passes =
    let parts = and_parts (int_le w.start d && int_le d w.end) _ covered in
    let ends = and_parts (int_le w.start d) (int_le d w.end) parts.0 in
    let after : w.start ≤ℤ d = at_or_after w.start d ends.0 in
    let before : d ≤ℤ w.end = at_or_after d w.end ends.1 in
    let i = unsigned_abs (d -ℤ w.start) in
    let n = unsigned_abs (w.end -ℤ w.start) + 1 in
    let here : pos i ≡ d -ℤ w.start = abs-above d w.start after in
    let all : pos (unsigned_abs (w.end -ℤ w.start)) ≡ w.end -ℤ w.start = abs-above w.end w.start (omega (arith, ints)) in
    let below : i < n = omega (arith, ints) in
    let day : ℕ → ℤ = λ k. w.start +ℤ pos k in
    let is : day i ≡ d = omega (arith, ints) in
    let at : get_or (map day (range_with_len 0 n)) i d ≡ day i = get_or-map-range_with_len day 0 n i i d below (omega arith) in
    let long : i < length (map day (range_with_len 0 n)) = rw (length-map-range_with_len day 0 n) below in
    list_any_at test (map day (range_with_len 0 n)) i d long (ap test (at ∙ is) ∙ passes)

-- ---- days of exceptions

among_exceptions : (test : ℤ → Bool) (kind : Exception → Bool) (d : ℤ) → test d ≡ true → (es : List (ℤ × Exception))
    → list_any (λ e. int_eq e.0 d && kind e.1) es ≡ true → list_any test (map (λ e. e.0) es) ≡ true
among_exceptions test kind d passes [] found = cc found
among_exceptions test kind d passes (e ∷ es) found = elim (cases_Bool (int_eq e.0 d)) [
  | inl same ↦ or_left (test e.0) _ (ap test (same_day e.0 d same) ∙ passes)
  | inr other ↦ or_right (test e.0) _ (among_exceptions test kind d passes es (rw other at found))
]

-- ---- a day on which a service runs is one that it names

named_in_row : (test : ℤ → Bool) (week : Option Week) (d : ℤ) → covered_by week d ≡ true → test d ≡ true → list_any test (days_of_week week) ≡ true
named_in_row test None d covered passes = cc covered
named_in_row test (Some w) d covered passes = in_row test w d covered passes

pub active_is_named : (s : ServiceDates) (d : ℤ) → is_active s d ≡ true → list_any (is_active s) (days_named s) ≡ true
active_is_named s d active =
    let parts = and_parts (is_service_day d) _ active in
    rw (list_any-append (is_active s) (days_of_week s.week) (map (λ e. e.0) s.exceptions))
    (elim (or_cases _ _ parts.1) [
      | inl regular ↦ or_left _ _ (named_in_row (is_active s) s.week d (and_parts (covered_by s.week d) _ regular).0 active)
      | inr added ↦ or_right (list_any (is_active s) (days_of_week s.week)) _ (among_exceptions (is_active s) is_added d active s.exceptions added)
    ])

never_before : (s : ServiceDates) → ((e : ℤ) → first_service_day ≤ℤ e → is_active s e ≡ false) → (e : ℤ) → is_active s e ≡ false
never_before s never e = elim (cases_int e first_service_day) [
  | inl early ↦ rw (before_service e early) refl
  | inr late ↦ never e late
]

-- no first active day from the first service day on
pub idle_is : (s : ServiceDates) (found : Option ℤ) → IsFirstIfAny (is_active s) first_service_day found → is_none found ≡ is_never_active s
idle_is s None never = ap not (sym (any_silent (is_active s) (days_named s) (never_before s never)))
idle_is s (Some d) first = ap not (sym (active_is_named s d first.passes))

-- ---- exceptions in another order

same_active : (s t : ServiceDates) → t.week ≡ s.week → IsPermutation s.exceptions t.exceptions → (e : ℤ) → is_active t e ≡ is_active s e
same_active s t week moved e =
    let removed : has_exception is_removed s e ≡ has_exception is_removed t e = list_any-IsPermutation _ s.exceptions t.exceptions moved in
    let added : has_exception is_added s e ≡ has_exception is_added t e = list_any-IsPermutation _ s.exceptions t.exceptions moved in
    sym (λ i. is_service_day e && ((covered_by (sym week i) e && not (removed i)) || added i))

pub first_moved : (s t : ServiceDates) (from : ℤ) (found : Option ℤ) → t.week ≡ s.week → IsPermutation s.exceptions t.exceptions
    → IsFirstIfAny (is_active t) from found → IsFirstIfAny (is_active s) from found
first_moved s t from found week moved first = subst (λ (test : ℤ → Bool). IsFirstIfAny test from found) (λ i e. same_active s t week moved e i) first

pub none_is : (found : Option ℤ) (b : Bool) → is_some found ≡ not b → b ≡ is_none found
none_is None true e = refl
none_is None false e = cc e
none_is (Some d) true e = cc e
none_is (Some d) false e = refl

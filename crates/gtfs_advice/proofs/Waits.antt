-- Services that wait for the walk over their days: what each step keeps.
use Rattle.std.proofs.Common.{◌≡◌, ◌∙◌, ◌+◌, ◌<◌, ◌≤◌, ℕ, Bool, true, false, List, [], ◌∷◌, length, get_or, Option, Some, None, ℤ, pos, ◌+ℤ◌, ◌-ℤ◌, ◌<ℤ◌, ◌≤ℤ◌, int_cmp, int_le, unsigned_abs, refl, sym, ap, subst, inl, inr, arith}
use Rattle.std.specs.Prelude.{All, sum_by, IfOk, MatchOption, OnOk, Ok, Err, Result, slice_get}
use Rattle.std.specs.BinaryHeap.{IsUpperBound}
use Rattle.std.specs.List.{list_any}
use Rattle.std.specs.List.Sorted.{IsPermutation}
use Rattle.std.specs.Option.{option_map_or}
use Rattle.std.specs.Result.{result_and}
use Rattle.std.specs.declared.alloc.AllocError.{AllocError}
use Rattle.std.specs.Ordering.{is_lt, nat_cmp, ordering_then}
use Rattle.std.specs.declared.cmp.Ordering.TheVariants.{Less}
use Rattle.std.proofs.lemmas.Bool.{and_from, and_parts, both_ways, cases_Bool, false≢true, or_cases, or_left, or_right}
use Rattle.std.proofs.lemmas.Int.{ints}
use Rattle.std.proofs.lemmas.List.Elements.{All-cons, All-tail}
use Rattle.std.proofs.lemmas.List.Folds.{list_any_none}
use Rattle.std.proofs.lemmas.List.Sorted.{All-permutation, list_any-IsPermutation, sum_by_popped, sum_by_pushed}
use Rattle.std.proofs.lemmas.Option.{slice_get-get_or, slice_get_within}
use Rattle.jiff_core.proofs.SignedLemmas.{signed_arith}
use Rattle.gtfs_field.proofs.NumberFacts.{abs-above, cases_int, cases_up_to, int_le-true, le-int_le}
use Rattle.gtfs_days.specs.Service.{IsFirstIfAny, first_service_day, is_active, is_service_day, last_service_day}
use Rattle.gtfs_days.proofs.ActiveDays.{first_same}
use Rattle.gtfs_rows.specs.declared.service.ServiceRow.{ServiceRow}
use Rattle.gtfs_advice.specs.ServedDays.{AreAllKnown, AreKnown, IsPart, IsQuiet, RunsOnServiceDays}
use Rattle.gtfs_advice.specs.WaitingServices.{AreWaiting, IsServedBy, Joins, Wait, runs_on, wait_cmp, waits_for}
use Rattle.gtfs_advice.specs.declared.served_days.ServedDays.{ServedDays}

-- how many days are left for a service that waits
abbrev pub days_left : Wait → ℕ
days_left w = unsigned_abs ((last_service_day +ℤ pos 1) -ℤ w.0.0)

-- what is so of services that wait and of known days at first is so of these
abbrev pub IsWalked : List ServiceRow → List Wait → ServedDays → List Wait → ServedDays → Type 0
IsWalked services waiting days waiting' days' = (served : ℤ → Bool) → RunsOnServiceDays served
    → AreWaiting services served days.until waiting → AreKnown served days
    → AreWaiting services served days'.until waiting' × AreKnown served days'

-- ---- a service by its number

same_service : (services : List ServiceRow) (n : ℕ) (row : ServiceRow) → n < length services → (d : ℤ) → is_active (get_or services n row).service d ≡ runs_on services n d
same_service services n row within d =
    sym (ap (λ (o : Option ServiceRow). option_map_or (λ r. is_active r.service d) o false) (slice_get-get_or services n row within))

has_row : (services : List ServiceRow) (n : ℕ) (d : ℤ) → runs_on services n d ≡ true → n < length services
has_row services n d runs = by (slice_get services n) refl runs
  where
    by : (o : Option ServiceRow) → slice_get services n ≡ o → option_map_or (λ r. is_active r.service d) o false ≡ true → n < length services
    by None at none = absurd (false≢true none)
    by (Some row) at active = slice_get_within services n row at

as_number : (services : List ServiceRow) (n : ℕ) (active : ℤ → Bool) (from : ℤ) (old new : List Wait) → ((d : ℤ) → active d ≡ runs_on services n d) → Joins active n from old new → Joins (runs_on services n) n from old new
as_number services n active from old new same joins = record {
  day = joins.day;
  first = first_same active (runs_on services n) from joins.day (λ d _. same d) joins.first;
  joined = joins.joined;
}

pub on_service_days : (services : List ServiceRow) (n : ℕ) (d : ℤ) → runs_on services n d ≡ true → is_service_day d ≡ true
on_service_days services n d runs = by (slice_get services n) runs
  where
    by : (o : Option ServiceRow) → option_map_or (λ r. is_active r.service d) o false ≡ true → is_service_day d ≡ true
    by None none = absurd (false≢true none)
    by (Some row) active = (and_parts (is_service_day d) _ active).0

up_to_last : (services : List ServiceRow) (n : ℕ) (d : ℤ) → runs_on services n d ≡ true → d ≤ℤ last_service_day
up_to_last services n d runs = int_le-true d last_service_day (and_parts (int_le first_service_day d) (int_le d last_service_day) (on_service_days services n d runs)).1

from_first : (services : List ServiceRow) (n : ℕ) (d : ℤ) → runs_on services n d ≡ true → first_service_day ≤ℤ d
from_first services n d runs = int_le-true first_service_day d (and_parts (int_le first_service_day d) (int_le d last_service_day) (on_service_days services n d runs)).0

-- ---- the one that waits for the earliest day

day_first : (x y : Wait) → is_lt (wait_cmp x y) ≡ false → x.0.0 ≤ℤ y.0.0
day_first x y not_less = elim (cases_int y.0.0 x.0.0) [
  | inr upto ↦ upto
  | inl before ↦ absurd (false≢true (sym not_less ∙ ap (λ o. is_lt (ordering_then o (nat_cmp y.0.1 x.0.1))) (less y.0.0 x.0.0 before)))
]
  where
    less : (a b : ℤ) → a <ℤ b → int_cmp a b ≡ Less
    less a b h = grind (arith, ints)

pub earliest : (x : Wait) (waiting : List Wait) → IsUpperBound wait_cmp x waiting → All (λ w. x.0.0 ≤ℤ w.0.0) waiting
earliest x [] above = λ k d within. absurd (omega arith)
earliest x (y ∷ ys) above = All-cons (λ w. x.0.0 ≤ℤ w.0.0) y ys (day_first x y above.0) (earliest x ys above.1)

-- nothing runs before its day
pub quiet : (services : List ServiceRow) (served : ℤ → Bool) (until : ℤ) (x : Wait) (waiting : List Wait) → AreWaiting services served until waiting → All (λ w. x.0.0 ≤ℤ w.0.0) waiting → IsQuiet served until x.0.0
quiet services served until x waiting are first d from before = elim (cases_Bool (served d)) [
  | inr rests ↦ rests
  | inl runs ↦ absurd (both_ways (list_any (waits_for services d) waiting)
      (list_any_none (waits_for services d) waiting (λ k e within. later (get_or waiting k e) (first k e within)))
      (are.all d runs from))
]
  where
    later : (w : Wait) → x.0.0 ≤ℤ w.0.0 → waits_for services d w ≡ false
    later w h = elim (cases_Bool (waits_for services d w)) [
      | inr fails ↦ fails
      | inl passes ↦ let by = int_le-true w.0.0 d (and_parts (int_le w.0.0 d) (runs_on services w.0.1 d) passes).0 in absurd (omega (arith, signed_arith))
    ]

-- ---- one that joins

module _ (active : ℤ → Bool) (n : ℕ) (from : ℤ) (old new : List Wait) (joins : Joins active n from old new) where
  pub all_joined : (P : Wait → Type 0) → All P old → ((d : ℤ) → from ≤ℤ d → active d ≡ true → P (record { 0 = (d, n) })) → All P new
  all_joined P all one = by joins.day joins.first joins.joined
    where
      by : (o : Option ℤ) → IsFirstIfAny active from o → MatchOption o (new ≡ old) (λ d. IsPermutation (record { 0 = (d, n) } ∷ old) new) → All P new
      by None first same = subst (λ l. All P l) (sym same) all
      by (Some d) first joined = All-permutation P (record { 0 = (d, n) } ∷ old) new joined (All-cons P (record { 0 = (d, n) }) old (one d first.not_before first.passes) all)

  pub any_joined : (p : Wait → Bool) → list_any p old ≡ true → list_any p new ≡ true
  any_joined p any = by joins.day joins.joined
    where
      by : (o : Option ℤ) → MatchOption o (new ≡ old) (λ d. IsPermutation (record { 0 = (d, n) } ∷ old) new) → list_any p new ≡ true
      by None same = ap (list_any p) same ∙ any
      by (Some d) joined = sym (list_any-IsPermutation p (record { 0 = (d, n) } ∷ old) new joined) ∙ or_right (p (record { 0 = (d, n) })) (list_any p old) any

  -- it waits for a day on which it runs, or for an earlier one
  pub one_joined : (p : Wait → Bool) (d : ℤ) → from ≤ℤ d → active d ≡ true → ((e : ℤ) → e ≤ℤ d → p (record { 0 = (e, n) }) ≡ true) → list_any p new ≡ true
  one_joined p d on runs passes = by joins.day joins.first joins.joined
    where
      by : (o : Option ℤ) → IsFirstIfAny active from o → MatchOption o (new ≡ old) (λ e. IsPermutation (record { 0 = (e, n) } ∷ old) new) → list_any p new ≡ true
      by None none same = absurd (both_ways (active d) (none d on) runs)
      by (Some e) first joined =
          let upto : e ≤ℤ d = elim (cases_int d e) [
            | inr h ↦ h
            | inl before ↦ absurd (both_ways (active d) (first.least d on before) runs)
          ] in
          sym (list_any-IsPermutation p (record { 0 = (e, n) } ∷ old) new joined) ∙ or_left (p (record { 0 = (e, n) })) (list_any p old) (passes e upto)

  -- fewer days are left than where it waited for an earlier day
  fewer_left : (x : Wait) → x.0.0 <ℤ from → x.0.0 ≤ℤ last_service_day → ((d : ℤ) → active d ≡ true → d ≤ℤ last_service_day) → sum_by days_left new < days_left x + sum_by days_left old
  fewer_left x before high days = by joins.day joins.first joins.joined
    where
      by : (o : Option ℤ) → IsFirstIfAny active from o → MatchOption o (new ≡ old) (λ d. IsPermutation (record { 0 = (d, n) } ∷ old) new) → sum_by days_left new < days_left x + sum_by days_left old
      by None first same =
          let here = abs-above (last_service_day +ℤ pos 1) x.0.0 (omega (arith, signed_arith)) in
          let some : 0 < days_left x = omega (arith, signed_arith, here) in
          omega (arith, ap (sum_by days_left) same, some)
      by (Some d) first joined =
          let here = abs-above (last_service_day +ℤ pos 1) x.0.0 (omega (arith, signed_arith)) in
          let there = abs-above (last_service_day +ℤ pos 1) d (let high = days d first.passes in omega (arith, signed_arith, high)) in
          let less : days_left (record { 0 = (d, n) }) < days_left x = omega (arith, signed_arith, here, there, first.not_before) in
          omega (arith, sum_by_pushed days_left (record { 0 = (d, n) }) old new joined, less)

-- ---- a whole step: x leaves, its service is followed, and it joins again

module _ (services : List ServiceRow) (x : Wait) (waiting rest new : List Wait) (left : IsPermutation waiting (x ∷ rest)) (each : All (λ w. runs_on services w.0.1 w.0.0 ≡ true) waiting)
    (row : ServiceRow) (from : ℤ) (joins : Joins (is_active (get_or services x.0.1 row).service) x.0.1 from rest new) where
  all_rest : (P : Wait → Type 0) → All P waiting → All P (x ∷ rest)
  all_rest P all = All-permutation P waiting (x ∷ rest) left all

  runs : runs_on services x.0.1 x.0.0 ≡ true
  runs = all_rest (λ w. runs_on services w.0.1 w.0.0 ≡ true) each 0 x (omega arith)

  same : (d : ℤ) → is_active (get_or services x.0.1 row).service d ≡ runs_on services x.0.1 d
  same = same_service services x.0.1 row (has_row services x.0.1 x.0.0 runs)

  joined : Joins (runs_on services x.0.1) x.0.1 from rest new
  joined = as_number services x.0.1 (is_active (get_or services x.0.1 row).service) from rest new same joins

  pub each_runs : All (λ w. runs_on services w.0.1 w.0.0 ≡ true) new
  each_runs =
      let P : Wait → Type 0 = λ w. runs_on services w.0.1 w.0.0 ≡ true in
      all_joined (runs_on services x.0.1) x.0.1 from rest new joined P (All-tail P x rest (all_rest P each)) (λ d on runs. runs)

  pub is_smaller : x.0.0 <ℤ from → sum_by days_left new < sum_by days_left waiting
  is_smaller before =
      let fewer = fewer_left (runs_on services x.0.1) x.0.1 from rest new joined x before (up_to_last services x.0.1 x.0.0 runs) (up_to_last services x.0.1) in
      omega (arith, fewer, sum_by_popped days_left x waiting rest left)

  module _ (served : ℤ → Bool) (until : ℤ) (are : AreWaiting services served until waiting) where
    parts : All (λ w. IsPart (runs_on services w.0.1) served) (x ∷ rest)
    parts = all_rest (λ w. IsPart (runs_on services w.0.1) served) are.each

    pub is_part : IsPart (is_active (get_or services x.0.1 row).service) served
    is_part d active = parts 0 x (omega arith) d (sym (same d) ∙ active)

    pub still_waiting : until ≤ℤ from → AreWaiting services served from new
    still_waiting onward = record {
      each = all_joined (runs_on services x.0.1) x.0.1 from rest new joined (λ w. IsPart (runs_on services w.0.1) served)
          (All-tail (λ w. IsPart (runs_on services w.0.1) served) x rest parts) (λ d on runs. parts 0 x (omega arith));
      all = λ d day_runs on. elim (or_cases (waits_for services d x) (list_any (waits_for services d) rest)
          (sym (list_any-IsPermutation (waits_for services d) waiting (x ∷ rest) left) ∙ are.all d day_runs (omega (arith, signed_arith)))) [
            | inr later ↦ any_joined (runs_on services x.0.1) x.0.1 from rest new joined (waits_for services d) later
            | inl here ↦
                let active = (and_parts (int_le x.0.0 d) (runs_on services x.0.1 d) here).1 in
                one_joined (runs_on services x.0.1) x.0.1 from rest new joined (waits_for services d) d on active
                (λ e upto. and_from (int_le e d) (runs_on services x.0.1 d) (le-int_le e d upto) active)
          ];
    }

-- ---- at first

-- so far up to this number
pub record AreWaitingTo (services : List ServiceRow) (used : List Bool) (served : ℤ → Bool) (count : ℕ) (waiting : List Wait) : Type 0 where
  pub each : All (λ w. IsPart (runs_on services w.0.1) served) waiting
  pub all : (n : ℕ) (d : ℤ) → n < count → get_or used n false ≡ true → runs_on services n d ≡ true → list_any (waits_for services d) waiting ≡ true

pub unused_waits : (services : List ServiceRow) (used : List Bool) (served : ℤ → Bool) (n : ℕ) (waiting : List Wait) → get_or used n false ≡ false
    → AreWaitingTo services used served n waiting → AreWaitingTo services used served (n + 1) waiting
unused_waits services used served n waiting unused are = record {
  each = are.each;
  all = λ m d within is_used runs. elim (cases_up_to m n (omega arith)) [
    | inl earlier ↦ are.all m d earlier is_used runs
    | inr same ↦ absurd (both_ways (get_or used n false) unused (ap (λ k. get_or used k false) (sym same) ∙ is_used))
  ];
}

module _ (services : List ServiceRow) (n : ℕ) (row : ServiceRow) (within : n < length services) (is : row ≡ get_or services n row)
    (from : ℤ) (is_first : from ≡ first_service_day) (old new : List Wait) (joins : Joins (is_active row.service) n from old new) where
  joined_first : Joins (runs_on services n) n from old new
  joined_first = as_number services n (is_active row.service) from old new (λ d. ap (λ (r : ServiceRow). is_active r.service d) is ∙ same_service services n row within d) joins

  pub each_runs_first : All (λ w. runs_on services w.0.1 w.0.0 ≡ true) old → All (λ w. runs_on services w.0.1 w.0.0 ≡ true) new
  each_runs_first each = all_joined (runs_on services n) n from old new joined_first (λ w. runs_on services w.0.1 w.0.0 ≡ true) each (λ d on runs. runs)

  pub used_waits : (used : List Bool) (served : ℤ → Bool) → get_or used n false ≡ true → IsServedBy services used served
      → AreWaitingTo services used served n old → AreWaitingTo services used served (n + 1) new
  used_waits used served is_used by are = record {
    each = all_joined (runs_on services n) n from old new joined_first (λ w. IsPart (runs_on services w.0.1) served) are.each (λ d on runs. by.each n is_used);
    all = λ m d below m_used runs. elim (cases_up_to m n (omega arith)) [
      | inl earlier ↦ any_joined (runs_on services n) n from old new joined_first (waits_for services d) (are.all m d earlier m_used runs)
      | inr same ↦
          let active : runs_on services n d ≡ true = ap (λ k. runs_on services k d) (sym same) ∙ runs in
          let on : from ≤ℤ d = omega (arith, signed_arith, is_first, from_first services n d active) in
          one_joined (runs_on services n) n from old new joined_first (waits_for services d) d on active
          (λ e upto. and_from (int_le e d) (runs_on services n d) (le-int_le e d upto) active)
    ];
  }

-- ---- all days

serves_on_days : (services : List ServiceRow) (used : List Bool) (served : ℤ → Bool) → IsServedBy services used served → RunsOnServiceDays served
serves_on_days services used served by d runs = let one = by.some d runs in on_service_days services one.0 d one.2

-- the walk from the first day on tells all days
pub walked_all : (services : List ServiceRow) (used : List Bool) (none : ServedDays) (waiting : List Wait) (all : ServedDays) (walked : Result (Unit {0}) AllocError) (made : Result ServedDays AllocError)
    → made ≡ result_and walked (Ok all) → none.until ≡ first_service_day → ((served : ℤ → Bool) → AreKnown served none)
    → ((served : ℤ → Bool) → IsServedBy services used served → AreWaiting services served first_service_day waiting)
    → OnOk walked ((served : ℤ → Bool) → RunsOnServiceDays served → AreWaiting services served none.until waiting → AreKnown served none → AreAllKnown served all)
    → IfOk made (λ days. (served : ℤ → Bool) → IsServedBy services used served → AreAllKnown served days)
walked_all services used none waiting all (Err e) made is first known waits walk = subst (λ r. IfOk r (λ days. (served : ℤ → Bool) → IsServedBy services used served → AreAllKnown served days)) (sym is) tt
walked_all services used none waiting all (Ok u) made is first known waits walk =
    subst (λ r. IfOk r (λ days. (served : ℤ → Bool) → IsServedBy services used served → AreAllKnown served days)) (sym is)
    (λ served by. walk served (serves_on_days services used served by) (subst (λ d. AreWaiting services served d waiting) (sym first) (waits served by)) (known served))

-- Services that wait for the walk over their days.
use Rattle.std.specs.Prelude.{◌≡◌, ◌&&◌, ℕ, Bool, true, false, List, ◌∷◌, All, MatchOption, slice_get, slice_index_or, ℤ, ◌≤ℤ◌, int_le, Option}
use Rattle.std.specs.List.{list_any}
use Rattle.std.specs.List.Sorted.{IsPermutation}
use Rattle.std.specs.Option.{option_map_or}
use Rattle.std.specs.Ordering.{int_cmp, nat_cmp, ordering_then}
use Rattle.std.specs.declared.cmp.Ordering.{Ordering}
use Rattle.std.specs.declared.cmp.Reverse.{Reverse}
use Rattle.gtfs_days.specs.Service.{IsFirstIfAny, is_active}
use Rattle.gtfs_rows.specs.declared.service.ServiceRow.{ServiceRow}
use Rattle.gtfs_advice.specs.ServedDays.{IsPart}

-- a day and the number of a service, in a heap that gives the earliest first
abbrev pub Wait : Type 0
Wait = Reverse (ℤ × ℕ)

abbrev pub wait_cmp : Wait → Wait → Ordering
wait_cmp v w = ordering_then (int_cmp w.0.0 v.0.0) (nat_cmp w.0.1 v.0.1)

-- the service of a number runs on a day
abbrev pub runs_on : List ServiceRow → ℕ → ℤ → Bool
runs_on services n d = option_map_or (λ r. is_active r.service d) (slice_get services n) false

-- a test of the days on which some service that is used runs
pub record IsServedBy (services : List ServiceRow) (used : List Bool) (served : ℤ → Bool) : Type 0 where
  pub each : (n : ℕ) → slice_index_or used n false ≡ true → IsPart (runs_on services n) served
  pub some : (d : ℤ) → served d ≡ true → (n : ℕ) × (slice_index_or used n false ≡ true) × (runs_on services n d ≡ true)

-- a service that runs on the day waits for it or for an earlier one
abbrev pub waits_for : List ServiceRow → ℤ → Wait → Bool
waits_for services d w = int_le w.0.0 d && runs_on services w.0.1 d

-- from a day on something runs just where a service that waits does
pub record AreWaiting (services : List ServiceRow) (served : ℤ → Bool) (until : ℤ) (waiting : List Wait) : Type 0 where
  pub each : All (λ w. IsPart (runs_on services w.0.1) served) waiting
  pub all : (d : ℤ) → served d ≡ true → until ≤ℤ d → list_any (waits_for services d) waiting ≡ true

-- a service has joined with the first day from one on on which it runs, if there is one
pub record Joins (active : ℤ → Bool) (n : ℕ) (from : ℤ) (old new : List Wait) : Type 0 where
  pub day : Option ℤ
  pub first : IsFirstIfAny active from day
  pub joined : MatchOption day (new ≡ old) (λ d. IsPermutation (record { 0 = (d, n) } ∷ old) new)

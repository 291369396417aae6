-- What is known of the days with service, as they are walked.
use Rattle.std.specs.Prelude.{◌≡◌, ◌&&◌, Bool, true, false, if◌then◌else◌, List, [], ◌∷◌, filter, map, ℤ, pos, ◌+ℤ◌, ◌-ℤ◌, ◌<ℤ◌, ◌≤ℤ◌, int_le, int_lt, not, Option, None, Some, unsigned_abs}
use Rattle.std.specs.List.{range_with_len}
use Rattle.gtfs_days.specs.Service.{first_service_day, is_service_day, last_service_day}
use Rattle.gtfs_advice.specs.Services.{begins_gap_of}
use Rattle.gtfs_advice.specs.declared.advice.Advice.{Advice}
use Rattle.gtfs_advice.specs.declared.advice.Subject.{Subject}
use Rattle.gtfs_advice.specs.declared.advice.Subject.TheVariants as subject
use Rattle.gtfs_advice.specs.declared.code.Code.TheVariants as code
use Rattle.gtfs_advice.specs.declared.served_days.ServedDays.{ServedDays}

-- something runs on service days alone
abbrev pub RunsOnServiceDays : (ℤ → Bool) → Type 0
RunsOnServiceDays served = (d : ℤ) → served d ≡ true → is_service_day d ≡ true

-- each day of one service is a day on which something runs
abbrev pub IsPart : (ℤ → Bool) → (ℤ → Bool) → Type 0
IsPart active served = (d : ℤ) → active d ≡ true → served d ≡ true

-- nothing runs from one day to before another
abbrev pub IsQuiet : (ℤ → Bool) → ℤ → ℤ → Type 0
IsQuiet served from until = (d : ℤ) → from ≤ℤ d → d <ℤ until → served d ≡ false

-- the service days before this one, ascending
abbrev pub days_before : ℤ → List ℤ
days_before d = map (λ i. first_service_day +ℤ pos i) (range_with_len 0 (unsigned_abs (d -ℤ first_service_day)))

-- the days before `until` are known, of which the last one has service if there is one
pub record AreKnown (served : ℤ → Bool) (days : ServedDays) : Type 0 where
  pub gaps : days.gaps.items ≡ filter (begins_gap_of served) (days_before days.until)
  pub ran : first_service_day <ℤ days.until → served (days.until -ℤ pos 1) ≡ true
  pub from : first_service_day ≤ℤ days.until

-- where these days are known and the next one on which something runs is this, the day between them on which a gap begins
abbrev pub gap_before : ℤ → ℤ → List ℤ
gap_before until next = if int_lt first_service_day until && not (int_lt next (until +ℤ pos 14)) then until ∷ [] else []

-- all days are: nothing runs later
pub record AreAllKnown (served : ℤ → Bool) (days : ServedDays) : Type 0 where
  pub known : AreKnown served days
  pub to : days.until ≤ℤ (last_service_day +ℤ pos 1)
  pub over : (d : ℤ) → days.until ≤ℤ d → served d ≡ false

-- ---- what is told of them

-- the last day on which something runs
abbrev pub last_of : ServedDays → Subject
last_of days = if int_lt first_service_day days.until then subject.Day (days.until -ℤ pos 1) else subject.Nothing

abbrev pub gap_said : ℤ → Advice
gap_said d = record { code = code.GapInService; subject = subject.Day d }

abbrev pub gaps_said : ServedDays → List Advice
gaps_said days = map gap_said days.gaps.items

abbrev pub end_of : ServedDays → Advice
end_of days = record { code = code.EndOfService; subject = last_of days }

-- nothing runs from the sixth day after the one that is given on
abbrev pub end_said : ServedDays → Option ℤ → List Advice
end_said days None = []
end_said days (Some d) = if int_le days.until (d +ℤ pos 6) then end_of days ∷ [] else []

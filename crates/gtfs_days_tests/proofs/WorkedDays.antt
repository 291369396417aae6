-- Days on which worked services are active. 19814 is Monday, 1 April 2024.
use Rattle.std.proofs.Common.{◌≡◌, ◌∷◌, [], ◌-◌, ◌+ℤ◌, refl, pos, Some, None, true, false}
use Rattle.jiff_core.specs.Calendar.{weekday_number}
use Rattle.gtfs_days.specs.declared.exception.Exception.TheVariants.{Added, Removed}
use Rattle.gtfs_days.specs.Service.{ServiceDates, is_active, first_service_day, last_service_day, service_day_count}

-- Monday to Friday from 1 to 5 April 2024, without the 3rd and with the 10th
abbrev weekdays : ServiceDates
weekdays = record {
  week = Some (record { days = true ∷ true ∷ true ∷ true ∷ true ∷ false ∷ false ∷ []; start = pos 19814; end = pos 19818 });
  exceptions = (pos 19816, Removed) ∷ (pos 19823, Added) ∷ [];
}

monday : is_active weekdays (pos 19814) ≡ true
unfolding weekday_number
monday = refl

removed : is_active weekdays (pos 19816) ≡ false
unfolding weekday_number
removed = refl

friday : is_active weekdays (pos 19818) ≡ true
unfolding weekday_number
friday = refl

saturday : is_active weekdays (pos 19819) ≡ false
unfolding weekday_number
saturday = refl

next_monday : is_active weekdays (pos 19821) ≡ false
unfolding weekday_number
next_monday = refl

added : is_active weekdays (pos 19823) ≡ true
unfolding weekday_number
added = refl

-- known by an added day alone
abbrev one_day : ServiceDates
one_day = record { week = None; exceptions = (pos 19819, Added) ∷ [] }

on_it : is_active one_day (pos 19819) ≡ true
on_it = refl

after_it : is_active one_day (pos 19820) ≡ false
after_it = refl

-- every day up to 31 December 9999
abbrev always : ServiceDates
always = record {
  week = Some (record { days = true ∷ true ∷ true ∷ true ∷ true ∷ true ∷ true ∷ []; start = pos 19814; end = pos 2_932_896 });
  exceptions = (pos 2_932_600, Added) ∷ [];
}

last_day : is_active always (pos 2_932_531) ≡ true
unfolding weekday_number
last_day = refl

past_it : is_active always (pos 2_932_532) ≡ false
past_it = refl

added_past_it : is_active always (pos 2_932_600) ≡ false
added_past_it = refl

-- the last of the service days is 31 December 9998
last_of_all : first_service_day +ℤ pos (service_day_count - 1) ≡ last_service_day
last_of_all = refl

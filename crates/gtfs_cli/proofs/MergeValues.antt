-- A distance of near stops and a cutoff are such as a merge takes.
use Rattle.std.proofs.Common.{◌≡◌, ℕ, ℤ, ◌≤◌, Bool, true, false, List, Option, Some, None, Result, Ok, Err, ap, refl, subst}
use Rattle.std.specs.Prelude.{IfSome, nat_le, option_map, unwrap_or}
use Rattle.std.specs.Result.{result_ok}
use Rattle.std.proofs.lemmas.Bool.{leb-true}
use Rattle.clap.specs.Words.{Text}
use Rattle.gtfs_field.specs.Digits.{is_number, number}
use Rattle.gtfs_field.specs.Kinds.{count_of, date_of, shaped, within}
use Rattle.gtfs_field.specs.declared.fault.FieldFault.{FieldFault}
use Rattle.gtfs_days.specs.Service.{is_service_day}
use Rattle.gtfs_cli.specs.MergeOptions.{cutoff_of, near_of}
use Rattle.gtfs_cli.specs.SharedOptions.{service_day}
use Rattle.gtfs_cli.proofs.Moments.{service-sound}

-- a count is at most the greatest
count_bound : (t : List ℕ) (n : ℕ) → count_of t ≡ Ok n → n ≤ 2_147_483_647
count_bound t n = step (is_number t) (nat_le (number t) 2_147_483_647) (number t) refl
  where
    step : (shape inside : Bool) (m : ℕ) → nat_le m 2_147_483_647 ≡ inside → shaped shape (within inside m) ≡ Ok n → n ≤ 2_147_483_647
    step false inside m is e = cc e
    step true false m is e = cc e
    step true true m is e = subst (λ (k : ℕ). k ≤ 2_147_483_647) (ap (λ (r : Result ℕ FieldFault). unwrap_or (result_ok r) m) e) (leb-true m 2_147_483_647 is)

read_as : (r : Result ℕ FieldFault) (n : ℕ) → option_map Some (result_ok r) ≡ Some (Some n) → r ≡ Ok n
read_as (Ok m) n e = cc e
read_as (Err f) n e = cc e

pub near-bound : (text : Option Text) (near : Option ℕ) → near_of text ≡ Some near → IfSome near (λ n. n ≤ 2_147_483_647)
near-bound text None is = tt
near-bound None (Some n) is = cc is
near-bound (Some t) (Some n) is = count_bound t n (read_as (count_of t) n is)

day_as : (day : Option ℤ) (d : ℤ) → option_map Some day ≡ Some (Some d) → day ≡ Some d
day_as None d e = cc e
day_as (Some x) d e = cc e

pub cutoff-day : (text : Option Text) (cutoff : Option ℤ) → cutoff_of text ≡ Some cutoff → IfSome cutoff (λ d. is_service_day d ≡ true)
cutoff-day text None is = tt
cutoff-day None (Some d) is = cc is
cutoff-day (Some t) (Some d) is = service-sound (date_of t) d (day_as (service_day (date_of t)) d is)

-- The seconds at which the runs of a trip start, each once: no two of its periods start a run at one second.
use Rattle.std.proofs.Common.{◌≡◌, ◌≤◌, ◌<◌, ◌+◌, ◌-◌, ◌%◌, ◌∙◌, ◌&&◌, ◌==◌, ℕ, suc, Bool, true, false, cond, List, [], ◌∷◌, length, get_or, take, add-one, nat_lt, nat_le, refl, sym, ap, arith, inl, inr}
use Rattle.std.specs.List.{list_any}
use Rattle.std.proofs.Math.Seq.{take-suc}
use Rattle.std.proofs.lemmas.Bool.{and_parts, cases_Bool, leb-true, ltb-true}
use Rattle.gtfs_rows.specs.declared.frequency.Frequency.{Frequency}
use Rattle.gtfs_rows.specs.declared.parts.Parts.{Parts}
use Rattle.gtfs_stop_times.specs.declared.stop_row.StopRow.{StopRow}
use Rattle.gtfs_rows.specs.declared.trip.Trip.{Trip}
use Rattle.gtfs_rows.specs.RowsInMemory.{frequency_of, trip_of}
use Rattle.gtfs_rows.specs.Trips.{ArePeriods}
use Rattle.gtfs_runs.specs.Tallies.{tally}
use Rattle.gtfs_rows.specs.Runs.{is_run, starts_run}
use Rattle.gtfs_runs.proofs.ContentRows.{period_run}
use Rattle.gtfs_runs.proofs.Tallies.{tally-none, tally-push}

abbrev pub starts : ℕ → Frequency → Bool
starts r f = starts_run (frequency_of f) r

-- a run of a period lies within it
pub within : (f : Frequency) (r : ℕ) → starts r f ≡ true → (f.start_time ≤ r) × (r < f.end_time)
within f r holds =
    let a = and_parts (nat_le f.start_time r && nat_lt r f.end_time) ((r - f.start_time) % f.headway_secs == 0) holds in
    let b = and_parts (nat_le f.start_time r) (nat_lt r f.end_time) a.0 in
    (leb-true f.start_time r b.0, ltb-true r f.end_time b.1)

pub later_fails : (f : Frequency) (r : ℕ) → r < f.start_time → starts r f ≡ false
later_fails f r before = elim (cases_Bool (starts r f)) [
  | inl is ↦ absurd (omega (arith, (within f r is).0))
  | inr isnt ↦ isnt
]

pub one_period : (fs : List Frequency) (r : ℕ) → ArePeriods fs → tally (starts r) fs ≡ cond (list_any (starts r) fs) 1 0
one_period [] r are = refl
one_period (f ∷ fs) r are = elim (cases_Bool (starts r f)) [
  | inl here ↦
      let before : (k : ℕ) (d : Frequency) → k < length fs → starts r (get_or fs k d) ≡ false =
      λ k d h. later_fails (get_or fs k d) r (omega (arith, (within f r here).1, are.apart 0 (suc k) d (omega arith) (omega arith))) in
      rw (here, tally-none (starts r) fs before) refl
  | inr other ↦
      rw other (zero_before (tally (starts r) fs) ∙ one_period fs r (record {
        filled = λ k d h. are.filled (suc k) d (omega arith);
        apart = λ i j d before h. are.apart (suc i) (suc j) d (omega arith) (omega arith);
      }))
]
  where
    zero_before : (n : ℕ) → 0 + n ≡ n
    zero_before n = omega arith

-- ---- the steps of the code

pub period_more : (fs : List Frequency) (n : ℕ) (f : Frequency) (r : ℕ) (old new : List ℕ) → n < length fs → f ≡ get_or fs n f
    → tally (λ x. r == x) old ≡ tally (starts r) (take n fs) → tally (λ x. r == x) new ≡ tally (λ x. r == x) old + cond (starts r f) 1 0
    → tally (λ x. r == x) new ≡ tally (starts r) (take (n + 1) fs)
period_more fs n f r old new within item so_far more =
    rw (add-one, take-suc fs n f within) (more ∙ ap (λ m. m + cond (starts r f) 1 0) so_far ∙ ap (λ g. tally (starts r) (take n fs) + cond (starts r g) 1 0) item
    ∙ sym (tally-push (starts r) (take n fs) (get_or fs n f)))

pub starts_all : (p : Parts) (t : Trip) (rs : List StopRow) (fs : List Frequency) (r : ℕ) (found : List ℕ) → 0 < length rs → 0 < length fs → ArePeriods fs
    → tally (λ x. r == x) found ≡ tally (starts r) fs → tally (λ x. r == x) found ≡ cond (is_run (trip_of p t rs fs) r) 1 0
starts_all p t rs fs r found filled periodic are is = is ∙ one_period fs r are ∙ ap (λ b. cond b 1 0) (sym (period_run p t rs fs r filled periodic))

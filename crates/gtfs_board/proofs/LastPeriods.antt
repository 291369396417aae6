-- Of periods of which none begins before the one before it ends, only the last that has begun can start a run.
use Rattle.std.proofs.Common.{◌≡◌, ◌≤◌, ◌<◌, ◌-◌, ◌∙◌, ℕ, zero, suc, Bool, true, false, ◌&&◌, List, [], ◌∷◌, length, get_or, refl, sym, subst, arith, inl, inr}
use Rattle.std.specs.Prelude.{◌==◌, ◌%◌, nat_le, nat_lt}
use Rattle.std.specs.List.{list_any}
use Rattle.std.specs.List.Sorted.{IsPartitionPoint, IsPartitionedBy}
use Rattle.std.proofs.lemmas.Bool.{and_parts, cases_Bool, false≢true, le-leb, leb-true, ltb-true}
use Rattle.std.proofs.Math.Bool.{or-false as or_none}
use Rattle.gtfs_field.proofs.NumberFacts.{cases_up_to as upto_cases}
use Rattle.gtfs_rows.specs.declared.frequency.Frequency.{Frequency}
use Rattle.gtfs_rows.specs.RowsInMemory.{frequency_of}
use Rattle.gtfs_rows.specs.Trips.{ArePeriods}
use Rattle.gtfs_rows.specs.Runs.{starts_run}

-- ---- lists of which at most one element passes a test

module _ {X : Type 0} (q : X → Bool) where
  none_passes : (xs : List X) → ((k : ℕ) (d : X) → k < length xs → q (get_or xs k d) ≡ false) → list_any q xs ≡ false
  none_passes [] fails = refl
  none_passes (x ∷ xs) fails = rw (fails 0 x (omega arith)) (none_passes xs (λ k d h. fails (suc k) d (omega arith)))

  only_passes : (xs : List X) (n : ℕ) (d : X) → n < length xs → ((k : ℕ) (e : X) → k < n → q (get_or xs k e) ≡ false)
      → ((k : ℕ) (e : X) → n < k → k < length xs → q (get_or xs k e) ≡ false) → list_any q xs ≡ q (get_or xs n d)
  only_passes [] n d within before after = absurd (omega arith)
  only_passes (x ∷ xs) zero d within before after = rw (none_passes xs (λ k e h. after (suc k) e (omega arith) (omega arith))) (or_none (q x))
  only_passes (x ∷ xs) (suc n) d within before after =
      rw (before 0 x (omega arith))
      (only_passes xs n d (omega arith) (λ k e h. before (suc k) e (omega arith)) (λ k e h i. after (suc k) e (omega arith) (omega arith)))

-- ---- periods

-- the period starts this run, and its times are not exact
abbrev pub is_inexact : ℕ → Frequency → Bool
is_inexact r f = starts_run (frequency_of f) r && ((frequency_of f).exact_times == 0)

abbrev pub has_begun : ℕ → Frequency → Bool
has_begun r f = nat_le f.start_time r

-- a run starts inside of its period
inside_of : (f : Frequency) (r : ℕ) → starts_run (frequency_of f) r ≡ true → (f.start_time ≤ r) × (r < f.end_time)
inside_of f r starts =
    let begins = nat_le f.start_time r in
    let ends = nat_lt r f.end_time in
    let both = and_parts begins ends (and_parts (begins && ends) ((r - f.start_time) % f.headway_secs == 0) starts).0 in
    (leb-true f.start_time r both.0, ltb-true r f.end_time both.1)

not_started : (r : ℕ) (f : Frequency) → (starts_run (frequency_of f) r ≡ true → ⊥) → is_inexact r f ≡ false
not_started r f never = elim (cases_Bool (starts_run (frequency_of f) r)) [
  | inl starts ↦ absurd (never starts)
  | inr isnt ↦ rw isnt refl
]

module _ (fs : List Frequency) (are : ArePeriods fs) (r : ℕ) where
  pub begun_first : IsPartitionedBy (has_begun r) fs
  begun_first i j d upto within has = elim (upto_cases i j upto) [
    | inl below ↦ le-leb (get_or fs i d).start_time r (omega (arith, leb-true (get_or fs j d).start_time r has, are.filled i d (omega arith), are.apart i j d below within))
    | inr same ↦ subst (λ k. has_begun r (get_or fs k d) ≡ true) (sym same) has
  ]

  module _ (n : ℕ) (split : IsPartitionPoint (λ f. has_begun r f ≡ true) (λ f. has_begun r f ≡ false) fs n) where
    later : (k : ℕ) (d : Frequency) → n ≤ k → k < length fs → is_inexact r (get_or fs k d) ≡ false
    later k d from within =
        let f = get_or fs k d in
        not_started r f (λ starts. false≢true (sym (split.1 k d from within) ∙ le-leb f.start_time r (inside_of f r starts).0))

    pub none_begun : n ≡ 0 → list_any (is_inexact r) fs ≡ false
    none_begun none = none_passes (is_inexact r) fs (λ k d h. later k d (omega arith) h)

    pub last_begun : (d : Frequency) → 0 < n → n ≤ length fs → list_any (is_inexact r) fs ≡ is_inexact r (get_or fs (n - 1) d)
    last_begun d some within =
        let last = n - 1 in
        let inside : last < length fs = omega arith in
        let earlier : (k : ℕ) (e : Frequency) → k < last → is_inexact r (get_or fs k e) ≡ false =
        λ k e before.
        let f = get_or fs k e in
        let ends = are.apart k last e before inside in
        let begins = leb-true (get_or fs last e).start_time r (split.0 last e (omega arith) (omega arith)) in
        not_started r f (λ starts. let goes_on = (inside_of f r starts).1 in absurd (omega (arith, ends, begins, goes_on))) in
        only_passes (is_inexact r) fs last d inside earlier (λ k e above h. later k e (omega arith) h)

-- The starts of a period's runs, from a second on.
use Rattle.std.proofs.Common.{◌≡◌, ◌≤◌, ◌<◌, ◌+◌, ◌-◌, ◌*◌, ◌%◌, ◌∙◌, ◌++◌, ◌&&◌, ◌==◌, ℕ, Bool, true, false, cond, List, [], ◌∷◌, nat_lt, nat_le, refl, sym, ap, arith, inl, inr}
use Rattle.std.specs.Prelude.{min, ◌^◌}
use Rattle.std.proofs.Math.Nat.{add-mod_left}
use Rattle.std.proofs.lemmas.Nat.{mod-mul-add}
use Rattle.std.proofs.lemmas.Bool.{cases_Bool, eqb-true, leb-true}
use Rattle.std.proofs.lemmas.Bool.Decides.{nat_tests}
use Rattle.gtfs_rows.specs.RowsInMemory.{frequency_of}
use Rattle.gtfs_rows.specs.declared.frequency.Frequency.{Frequency}
use Rattle.gtfs_runs.specs.Tallies.{tally}
use Rattle.gtfs_rows.specs.Runs.{starts_run}
use Rattle.gtfs_runs.proofs.Tallies.{tally-push}
use Rattle.gtfs_board.specs.TimetableColumns.{is_same_column}
use Rattle.gtfs_board.specs.declared.sheet.columns.RunColumn.{RunColumn}

-- a run starts at this second or a whole number of headways after it, before the end
abbrev pub starts_from : ℕ → ℕ → ℕ → ℕ → Bool
starts_from start end headway r = nat_le start r && nat_lt r end && ((r - start) % headway == 0)

past_end : (start end headway r : ℕ) → end ≤ start → starts_from start end headway r ≡ false
past_end start end headway r past = elim (cases_Bool (nat_le start r)) [
  | inl from ↦ let beyond : nat_lt r end ≡ false = grind (arith, nat_tests) in rw (from, beyond) refl
  | inr before ↦ rw before refl
]

small_mod : (n k : ℕ) → n < k → n % k ≡ n
small_mod n k h = let e : n ≡ 0 * k + n = omega arith in ap (λ m. m % k) e ∙ mod-mul-add 0 k n h

less_mod : (n k : ℕ) → k ≤ n → n % k ≡ (n - k) % k
less_mod n k h = let e : k + (n - k) ≡ n = omega arith in ap (λ m. m % k) (sym e) ∙ add-mod_left k (n - k)

-- where neither test passes
nothing : (b d : Bool) → b ≡ false → ◌≡◌ {A = ℕ} (cond (b && d) 1 0) 0
nothing b d is = rw is refl

-- the runs from a second on are the one there and those from the next on
next_from : (start next end headway r : ℕ) → start < end → 0 < headway → end < 2 ^ 32 - 1 → next ≡ min (start + headway) (2 ^ 32 - 1)
    → ◌≡◌ {A = ℕ} (cond (starts_from start end headway r) 1 0) (cond (r == start) 1 0 + cond (starts_from next end headway r) 1 0)
next_from start next end headway r lasts moves low is = elim (cases_Bool (r == start)) [
  | inl same ↦
      let e : r ≡ start = eqb-true r start same in
      let here : starts_from start end headway r ≡ true =
      (let a : nat_le start r ≡ true = grind (arith, nat_tests) in
      let b : nat_lt r end ≡ true = grind (arith, nat_tests) in
      let c : (r - start) ≡ 0 = omega (arith, e) in
      let d : (0 % headway) ≡ 0 = small_mod 0 headway moves in
      rw (a, b, c, d) refl) in
      let there : starts_from next end headway r ≡ false =
      (let a : nat_le next r ≡ false = grind (arith, nat_tests) in rw a refl) in
      rw (same, here, there) refl
  | inr other ↦ rw other (elim (cases_Bool (nat_le next r)) [
    | inl later ↦ elim (cases_Bool (nat_lt r end)) [
      | inl within ↦
          let at : next ≡ start + headway = grind (arith, nat_tests) in
          let a : nat_le start r ≡ true = grind (arith, nat_tests) in
          let gone : headway ≤ r - start = (let l = leb-true next r later in omega (arith, l, at)) in
          let rest : r - start - headway ≡ r - next = (let l = leb-true next r later in omega (arith, l, at)) in
          let m : (r - start) % headway ≡ (r - next) % headway = less_mod (r - start) headway gone ∙ ap (λ n. n % headway) rest in
          rw (a, later, within, m) (zero-plus (cond ((r - next) % headway == 0) 1 0))
      | inr beyond ↦ rw beyond (both_gone (nat_le start r) (nat_le next r))
    ]
    | inr before ↦ rw before (elim (cases_Bool (nat_le start r)) [
      | inl from ↦ elim (cases_Bool (nat_lt r end)) [
        | inl within ↦
            let f = leb-true start r from in
            let o : r ≡ start → ⊥ = (λ e. apart r start e other) in
            let short : r - start < headway = grind (arith, nat_tests) in
            let some : ((r - start) % headway == 0) ≡ false =
            ap (λ n. n == 0) (small_mod (r - start) headway short) ∙ (let g : ((r - start) == 0) ≡ false = grind (arith, nat_tests) in g) in
            rw (from, within, some) refl
        | inr beyond ↦ rw (from, beyond) refl
      ]
      | inr under ↦ rw under refl
    ])
  ])
]
  where
    zero-plus : (n : ℕ) → n ≡ 0 + n
    zero-plus n = omega arith

    both_gone : (a b : Bool) → ◌≡◌ {A = ℕ} (cond (a && false && ((r - start) % headway == 0)) 1 0) (0 + cond (b && false && ((r - next) % headway == 0)) 1 0)
    both_gone true true = refl
    both_gone true false = refl
    both_gone false true = refl
    both_gone false false = refl

    apart : (a b : ℕ) → a ≡ b → (a == b) ≡ false → ⊥
    apart a b e f = grind (arith, nat_tests)

-- ---- the steps of the code

pub period-begun : (c : RunColumn) (t start end : ℕ) (f : Frequency) (n : ℕ) → start ≡ f.start_time → end ≡ f.end_time
    → n + cond ((c.trip.0 == t) && starts_from start end f.headway_secs c.start) 1 0 ≡ n + cond ((c.trip.0 == t) && starts_run (frequency_of f) c.start) 1 0
period-begun c t start end f n begins ends = λ i. n + cond ((c.trip.0 == t) && starts_from (begins i) (ends i) f.headway_secs c.start) 1 0

pub period-step : (c x : RunColumn) (next end headway : ℕ) (before after : List RunColumn) (total : ℕ) → after ≡ before ++ x ∷ [] → x.start < end → 0 < headway → end < 2 ^ 32 - 1
    → next ≡ min (x.start + headway) (2 ^ 32 - 1)
    → tally (is_same_column c) before + cond ((c.trip.0 == x.trip.0) && starts_from x.start end headway c.start) 1 0 ≡ total
    → tally (is_same_column c) after + cond ((c.trip.0 == x.trip.0) && starts_from next end headway c.start) 1 0 ≡ total
period-step c x next end headway before after total pushed lasts moves low is so_far =
    let more : tally (is_same_column c) after ≡ tally (is_same_column c) before + cond (is_same_column c x) 1 0 = ap (tally (is_same_column c)) pushed ∙ tally-push (is_same_column c) before x in
    let here = next_from x.start next end headway c.start lasts moves low is in
    let step = guarded (c.trip.0 == x.trip.0) (c.start == x.start) (starts_from x.start end headway c.start) (starts_from next end headway c.start) here in
    omega (arith, more, step, so_far)
  where
    guarded : (t s a b : Bool) → ◌≡◌ {A = ℕ} (cond a 1 0) (cond s 1 0 + cond b 1 0) → ◌≡◌ {A = ℕ} (cond (t && a) 1 0) (cond (s && t) 1 0 + cond (t && b) 1 0)
    guarded true true a b e = e
    guarded true false a b e = e
    guarded false true a b e = omega arith
    guarded false false a b e = omega arith

pub period-ended : (c : RunColumn) (t start end headway : ℕ) (found : List RunColumn) (total : ℕ) → end ≤ start
    → tally (is_same_column c) found + cond ((c.trip.0 == t) && starts_from start end headway c.start) 1 0 ≡ total → tally (is_same_column c) found ≡ total
period-ended c t start end headway found total past so_far =
    let none = past_end start end headway c.start past in
    let gone : ◌≡◌ {A = ℕ} (cond ((c.trip.0 == t) && starts_from start end headway c.start) 1 0) 0 = ap (λ b. cond ((c.trip.0 == t) && b) 1 0) none ∙ never (c.trip.0 == t) in
    omega (arith, gone, so_far)
  where
    never : (b : Bool) → ◌≡◌ {A = ℕ} (cond (b && false) 1 0) 0
    never true = refl
    never false = refl

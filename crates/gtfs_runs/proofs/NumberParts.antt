-- Lists in which the numbers of elements rise: those of one number stand together, after those of lower ones.
use Rattle.std.proofs.Common.{◌≡◌, ◌≤◌, ◌+◌, ◌-◌, ◌∙◌, ◌==◌, ℕ, suc, Bool, true, false, not, List, [], ◌∷◌, filter, take, drop, get_or, nat_lt, refl, sym, ap, arith, inl, inr}
use Rattle.std.specs.List.{All, AllPairs}
use Rattle.std.proofs.lemmas.Bool.{cases_Bool, eqb-true, lt-ltb, ltb-true, ltb-false, le-ltb}
use Rattle.std.proofs.lemmas.Bool.Decides.{nat_tests}
use Rattle.std.proofs.lemmas.List.Elements.{All-head, All-tail}
use Rattle.gtfs_rows.proofs.Held.{filter_none}
use Rattle.gtfs_rows.proofs.SameElements.{pairs-head, pairs-tail}
use Rattle.gtfs_runs.specs.Tallies.{tally}
use Rattle.gtfs_runs.proofs.Tallies.{tally-none}

unlike : (m n : ℕ) → (m ≡ n → ⊥) → (m == n) ≡ false
unlike m n apart = elim (cases_Bool (m == n)) [
  | inl same ↦ absurd (apart (eqb-true m n same))
  | inr other ↦ other
]

beyond : (m n : ℕ) → n ≤ m → (m == n) ≡ false → n + 1 ≤ m
beyond m n from other = grind (arith, nat_tests)

module _ {X : Type 0} (key : X → ℕ) where
  abbrev pub Rises : List X → Type 0
  Rises = AllPairs (λ x y. key x ≤ key y)

  none_lower : (xs : List X) (s : ℕ) → All (λ y. s ≤ key y) xs → tally (λ x. nat_lt (key x) s) xs ≡ 0
  none_lower xs s all = tally-none (λ x. nat_lt (key x) s) xs (λ k d within. le-ltb (key (get_or xs k d)) s (all k d within))

  -- of a number below all stops nothing is taken
  taken_none : (a b : ℕ) (xs : List X) → a ≡ 0 → b ≡ 0 → take (b - a) (drop a xs) ≡ []
  taken_none a b xs none none_too = rw (none, none_too) refl

  one_more : (x : X) (xs : List X) (a b : ℕ) (ys : List X) → a ≡ 0 → take (b - a) (drop a xs) ≡ ys → take (1 + b - (0 + a)) (drop (0 + a) (x ∷ xs)) ≡ x ∷ ys
  one_more x xs a b ys none is =
      let more : 1 + b - (0 + a) ≡ suc b = omega (arith, none) in
      let at : 0 + a ≡ 0 = omega (arith, none) in
      let left : b - a ≡ b = omega (arith, none) in
      rw (more, at) (ap (λ l. x ∷ l) ((λ i. take (sym left i) (drop (sym none i) xs)) ∙ is))

  skip_one : (x : X) (xs : List X) (a b : ℕ) → take (1 + b - (1 + a)) (drop (1 + a) (x ∷ xs)) ≡ take (b - a) (drop a xs)
  skip_one x xs a b =
      let less : 1 + b - (1 + a) ≡ b - a = omega arith in
      let at : 1 + a ≡ suc a = omega arith in
      rw (less, at) refl

  pub together : (xs : List X) (s : ℕ) → Rises xs
      → take (tally (λ x. nat_lt (key x) (s + 1)) xs - tally (λ x. nat_lt (key x) s) xs) (drop (tally (λ x. nat_lt (key x) s) xs) xs) ≡ filter (λ x. key x == s) xs
  together [] s up = refl
  together (x ∷ xs) s up =
      let below : ℕ → ℕ = λ n. tally (λ y. nat_lt (key y) n) xs in
      let rest = together xs s (pairs-tail (λ a b. key a ≤ key b) x xs up) in
      let above = pairs-head (λ a b. key a ≤ key b) x xs up in
      elim (cases_Bool (nat_lt (key x) s)) [
        | inl lower ↦
            let less = ltb-true (key x) s lower in
            let next : nat_lt (key x) (s + 1) ≡ true = lt-ltb (key x) (s + 1) (omega (arith, less)) in
            let other : (key x == s) ≡ false = unlike (key x) s (λ same. omega (arith, less, same)) in
            rw (lower, next, other) (skip_one x xs (below s) (below (s + 1)) ∙ rest)
        | inr not_lower ↦
            let from : s ≤ key x = ltb-false (key x) s not_lower in
            let none : below s ≡ 0 = none_lower xs s (λ k d within. let up = above k d within in omega (arith, from, up)) in
            elim (cases_Bool (key x == s)) [
              | inl same ↦
                  let here = eqb-true (key x) s same in
                  let next : nat_lt (key x) (s + 1) ≡ true = lt-ltb (key x) (s + 1) (omega (arith, here)) in
                  rw (not_lower, next, same) (one_more x xs (below s) (below (s + 1)) (filter (λ y. key y == s) xs) none rest)
              | inr other ↦
                  let past : s + 1 ≤ key x = beyond (key x) s from other in
                  let next : nat_lt (key x) (s + 1) ≡ false = le-ltb (key x) (s + 1) past in
                  let later = none_lower xs (s + 1) (λ k d within. let up = above k d within in omega (arith, past, up)) in
                  let nothing : filter (λ y. key y == s) xs ≡ [] =
                  filter_none (λ y. key y == s) xs (λ k d within. let up = above k d within in unlike (key (get_or xs k d)) s (λ same. omega (arith, past, up, same))) in
                  rw (not_lower, next, other, nothing) (taken_none (0 + below s) (0 + below (s + 1)) (x ∷ xs) (omega (arith, none)) (omega (arith, later)))
            ]
      ]

  -- ---- those of the lowest number come first

  kept_all : (q : X → Bool) (xs : List X) → All (λ x. q x ≡ true) xs → filter q xs ≡ xs
  kept_all q [] all = refl
  kept_all q (x ∷ xs) all = rw (All-head (λ y. q y ≡ true) x xs all) (ap (λ l. x ∷ l) (kept_all q xs (All-tail (λ y. q y ≡ true) x xs all)))

  pub first_run : (xs : List X) (s : ℕ) → Rises xs → All (λ x. s ≤ key x) xs
      → (take (tally (λ x. key x == s) xs) xs ≡ filter (λ x. key x == s) xs) × (drop (tally (λ x. key x == s) xs) xs ≡ filter (λ x. not (key x == s)) xs)
  first_run [] s up from = (refl, refl)
  first_run (x ∷ xs) s up from = elim (cases_Bool (key x == s)) [
    | inl same ↦
        let rest = first_run xs s (pairs-tail (λ a b. key a ≤ key b) x xs up) (All-tail (λ y. s ≤ key y) x xs from) in
        let next : 1 + tally (λ y. key y == s) xs ≡ suc (tally (λ y. key y == s) xs) = omega arith in
        rw (same, next) (ap (λ l. x ∷ l) rest.0, rest.1)
    | inr other ↦
        let past : s + 1 ≤ key x = beyond (key x) s (All-head (λ y. s ≤ key y) x xs from) other in
        let above = pairs-head (λ a b. key a ≤ key b) x xs up in
        let apart : All (λ y. (key y == s) ≡ false) xs = λ k d within. let up = above k d within in unlike (key (get_or xs k d)) s (λ same. omega (arith, past, up, same)) in
        let none : tally (λ y. key y == s) xs ≡ 0 = tally-none (λ y. key y == s) xs apart in
        let nothing = filter_none (λ y. key y == s) xs apart in
        let all = kept_all (λ y. not (key y == s)) xs (λ k d within. ap not (apart k d within)) in
        rw (other, none, nothing, all) (refl, refl)
  ]

-- How many elements pass: what a further element adds, and what a range of numbers makes.
use Rattle.std.proofs.Common.{◌≡◌, ◌≤◌, ◌<◌, ◌+◌, ◌-◌, ◌%◌, ◌++◌, ◌∙◌, ◌&&◌, ◌==◌, ℕ, zero, suc, Bool, true, false, cond, List, [], ◌∷◌, nat_lt, nat_le, length, map, take, add-one, get_or, refl, sym, ap, arith, inl, inr, zero-add}
use Rattle.std.specs.List.{All, list_any}
use Rattle.std.specs.List.Sorted.{IsPermutation}
use Rattle.std.proofs.lemmas.List.Elements.{All-head, All-tail}
use Rattle.std.proofs.Math.Seq.{take-suc}
use Rattle.std.proofs.lemmas.List.{map-append}
use Rattle.std.proofs.lemmas.List.Recursion.{is_sum_by}
use Rattle.std.proofs.lemmas.List.Sorted.{sum_by-IsPermutation}
use Rattle.std.proofs.lemmas.Bool.{cases_Bool, eqb-true, lt-ltb}
use Rattle.std.proofs.lemmas.Bool.Decides.{nat_tests}
use Rattle.gtfs_runs.specs.Tallies.{tally}

pub tally-append : {X : Type 0} (q : X → Bool) (xs ys : List X) → tally q (xs ++ ys) ≡ tally q xs + tally q ys
tally-append q [] ys = sym (zero-add (tally q ys))
tally-append q (x ∷ xs) ys = let more : cond (q x) 1 0 + (tally q xs + tally q ys) ≡ cond (q x) 1 0 + tally q xs + tally q ys = omega arith in rw (tally-append q xs ys) more

pub tally-push : {X : Type 0} (q : X → Bool) (xs : List X) (x : X) → tally q (xs ++ x ∷ []) ≡ tally q xs + cond (q x) 1 0
tally-push q xs x = tally-append q xs (x ∷ []) ∙ (let e : cond (q x) 1 0 + 0 ≡ cond (q x) 1 0 = omega arith in ap (λ n. tally q xs + n) e)

-- ---- one more number

-- what is asked of the numbers below n and of n is what is asked of those below n + 1
pub one_more_below : (x n : ℕ) (b : Bool) → cond (nat_lt x n && b) 1 0 + cond ((x == n) && b) 1 0 ≡ cond (nat_lt x (n + 1) && b) 1 0
one_more_below x n true = grind (arith, nat_tests)
one_more_below x n false = grind (arith, nat_tests)

-- ---- the seconds at which a period starts runs, up to a second

abbrev pub starts_before : ℕ → ℕ → ℕ → ℕ → Bool
starts_before start headway end r = nat_le start r && nat_lt r end && ((r - start) % headway == 0)

none_before : (start headway r : ℕ) → starts_before start headway start r ≡ false
none_before start headway r = elim (cases_Bool (nat_le start r)) [
  | inl from ↦ let past : nat_lt r start ≡ false = grind (arith, nat_tests) in rw (from, past) refl
  | inr before ↦ rw before refl
]

other_second : (start headway second r : ℕ) → (r == second) ≡ false → starts_before start headway (second + 1) r ≡ starts_before start headway second r
other_second start headway second r other =
    let same : nat_lt r (second + 1) ≡ nat_lt r second = grind (arith, nat_tests) in
    ap (λ b. nat_le start r && b && ((r - start) % headway == 0)) same

not_yet : (start headway second : ℕ) → starts_before start headway second second ≡ false
not_yet start headway second =
    let past : nat_lt second second ≡ false = grind (arith, nat_tests) in
    ap (λ b. nat_le start second && b && ((second - start) % headway == 0)) past ∙ never (nat_le start second)
  where
    never : (b : Bool) → (b && false && ((second - start) % headway == 0)) ≡ false
    never true = refl
    never false = refl

this_second : (start headway second : ℕ) → start ≤ second → starts_before start headway (second + 1) second ≡ ((second - start) % headway == 0)
this_second start headway second from =
    let at : nat_le start second ≡ true = grind (arith, nat_tests) in
    let before : nat_lt second (second + 1) ≡ true = grind (arith, nat_tests) in
    rw (at, before) refl

pub second_starts : (start headway second r : ℕ) → start ≤ second → ((second - start) % headway == 0) ≡ true
    → cond (starts_before start headway second r) 1 0 + cond (r == second) 1 0 ≡ cond (starts_before start headway (second + 1) r) 1 0
second_starts start headway second r from starts = elim (cases_Bool (r == second)) [
  | inl same ↦
      let e : r ≡ second = eqb-true r second same in
      rw (same, e, not_yet start headway second, this_second start headway second from, starts) refl
  | inr other ↦ rw (other, other_second start headway second r other) (none (cond (starts_before start headway second r) 1 0))
]
  where
    none : (n : ℕ) → n + 0 ≡ n
    none n = omega arith

pub second_passes : (start headway second r : ℕ) → start ≤ second → ((second - start) % headway == 0) ≡ false
    → starts_before start headway second r ≡ starts_before start headway (second + 1) r
second_passes start headway second r from never = elim (cases_Bool (r == second)) [
  | inl same ↦ let e : r ≡ second = eqb-true r second same in rw (e, not_yet start headway second, this_second start headway second from, never) refl
  | inr other ↦ sym (other_second start headway second r other)
]

-- the steps of the code
pub second_pushed : (start headway second r : ℕ) (old before after : List ℕ) → after ≡ before ++ second ∷ [] → start ≤ second → (second - start) % headway ≡ 0
    → tally (λ x. r == x) before ≡ tally (λ x. r == x) old + cond (starts_before start headway second r) 1 0
    → tally (λ x. r == x) after ≡ tally (λ x. r == x) old + cond (starts_before start headway (second + 1) r) 1 0
second_pushed start headway second r old before after pushed from starts so_far =
    let test : ((second - start) % headway == 0) ≡ true = rw starts refl in
    ap (tally (λ x. r == x)) pushed ∙ tally-push (λ x. r == x) before second ∙ ap (λ n. n + cond (r == second) 1 0) so_far
    ∙ sums (tally (λ x. r == x) old) (cond (starts_before start headway second r) 1 0) (cond (r == second) 1 0)
    ∙ ap (λ n. tally (λ x. r == x) old + n) (second_starts start headway second r from test)
  where
    sums : (a b c : ℕ) → a + b + c ≡ a + (b + c)
    sums a b c = omega arith

pub second_left : (start headway second r : ℕ) (old before after : List ℕ) → after ≡ before → start ≤ second → ((second - start) % headway ≡ 0 → ⊥)
    → tally (λ x. r == x) before ≡ tally (λ x. r == x) old + cond (starts_before start headway second r) 1 0
    → tally (λ x. r == x) after ≡ tally (λ x. r == x) old + cond (starts_before start headway (second + 1) r) 1 0
second_left start headway second r old before after kept from never so_far =
    let test : ((second - start) % headway == 0) ≡ false = elim (cases_Bool ((second - start) % headway == 0)) [
      | inl is ↦ absurd (never (eqb-true ((second - start) % headway) 0 is))
      | inr isnt ↦ isnt
    ] in
    ap (tally (λ x. r == x)) kept ∙ so_far ∙ ap (λ b. tally (λ x. r == x) old + cond b 1 0) (second_passes start headway second r from test)

-- ---- tests

pub tally-same : {X : Type 0} (q r : X → Bool) (xs : List X) → ((x : X) → q x ≡ r x) → tally q xs ≡ tally r xs
tally-same q r [] same = refl
tally-same q r (x ∷ xs) same = λ i. cond (same x i) 1 0 + tally-same q r xs same i

-- a test that does not look at the element
-- what passes one test passes the other
pub tally-weaker : {X : Type 0} (q r : X → Bool) (xs : List X) → ((x : X) → q x ≡ true → r x ≡ true) → tally q xs ≤ tally r xs
tally-weaker q r [] weaker = omega arith
tally-weaker q r (x ∷ xs) weaker =
    let rest = tally-weaker q r xs weaker in
    elim (cases_Bool (q x)) [
      | inl is ↦
          let one : ◌≡◌ {A = ℕ} (cond (q x) 1 0) 1 = ap (λ b. cond b 1 0) is in
          let other : ◌≡◌ {A = ℕ} (cond (r x) 1 0) 1 = ap (λ b. cond b 1 0) (weaker x is) in
          omega (arith, rest, one, other)
      | inr isnt ↦ let none : ◌≡◌ {A = ℕ} (cond (q x) 1 0) 0 = ap (λ b. cond b 1 0) isnt in omega (arith, rest, none)
    ]

pub tally-and : {X : Type 0} (q : X → Bool) (b : Bool) (xs : List X) → tally (λ x. q x && b) xs ≡ cond b (tally q xs) 0
tally-and q true [] = refl
tally-and q false [] = refl
tally-and q true (x ∷ xs) = λ i. cond (and_true (q x) i) 1 0 + tally-and q true xs i
  where
    and_true : (a : Bool) → (a && true) ≡ a
    and_true true = refl
    and_true false = refl
tally-and q false (x ∷ xs) = (λ i. cond (and_false (q x) i) 1 0 + tally-and q false xs i) ∙ zero-add 0
  where
    and_false : (a : Bool) → (a && false) ≡ false
    and_false true = refl
    and_false false = refl

pub tally-none : {X : Type 0} (q : X → Bool) (xs : List X) → All (λ x. q x ≡ false) xs → tally q xs ≡ 0
tally-none q [] none = refl
tally-none q (x ∷ xs) none = rw (All-head (λ y. q y ≡ false) x xs none, tally-none q xs (All-tail (λ y. q y ≡ false) x xs none)) refl

pub counted : (b : Bool) → b ≡ true → ◌≡◌ {A = ℕ} (cond b 1 0) 1
counted b is = ap (λ a. cond a 1 0) is

not_counted : (b : Bool) (n m : ℕ) → b ≡ false → cond b 1 0 + n ≡ m → n ≡ m
not_counted b n m is sum = sym (zero-add n) ∙ ap (λ a. cond a 1 0 + n) (sym is) ∙ sum

-- of a list in which one passes at most once, it stands there or not
pub any-tally : {X : Type 0} (q : X → Bool) (xs : List X) (b : Bool) → tally q xs ≡ cond b 1 0 → list_any q xs ≡ b
any-tally q [] true is = absurd (omega (arith, is))
any-tally q [] false is = refl
any-tally q (x ∷ xs) b is = elim (cases_Bool (q x)) [
  | inl here ↦ rw here (some b (let le : 1 ≤ cond b 1 0 = omega (arith, is, counted (q x) here) in le))
  | inr other ↦ rw other (any-tally q xs b (not_counted (q x) (tally q xs) (cond b 1 0) other is))
]
  where
    some : (c : Bool) → 1 ≤ cond c 1 0 → true ≡ c
    some true le = refl
    some false le = absurd (omega (arith, le))

pub tally-permutation : {X : Type 0} (q : X → Bool) (xs ys : List X) → IsPermutation xs ys → tally q ys ≡ tally q xs
tally-permutation q xs ys same =
    is_sum_by (tally q) (λ x. cond (q x) 1 0) refl (λ _ _. refl) ys ∙ sum_by-IsPermutation (λ x. cond (q x) 1 0) xs ys same
    ∙ sym (is_sum_by (tally q) (λ x. cond (q x) 1 0) refl (λ _ _. refl) xs)

pub one_at : {X : Type 0} (q : X → Bool) (xs : List X) (j : ℕ) (d : X) → j < length xs → q (get_or xs j d) ≡ true → 1 ≤ tally q xs
one_at q [] j d within holds = absurd (omega arith)
one_at q (x ∷ xs) zero d within holds = omega (arith, counted (q x) holds)
one_at q (x ∷ xs) (suc j) d within holds = omega (arith, one_at q xs j d (omega arith) holds)

pub two_at : {X : Type 0} (q : X → Bool) (xs : List X) (i j : ℕ) (d : X) → i < j → j < length xs → q (get_or xs i d) ≡ true → q (get_or xs j d) ≡ true → 2 ≤ tally q xs
two_at q [] i j d before within first second = absurd (omega arith)
two_at q (x ∷ xs) i zero d before within first second = absurd (omega arith)
two_at q (x ∷ xs) zero (suc j) d before within first second =
    omega (arith, counted (q x) first, one_at q xs j d (omega arith) second)
two_at q (x ∷ xs) (suc i) (suc j) d before within first second = omega (arith, two_at q xs i j d (omega arith) (omega arith) first second)

-- ---- the steps of a loop over rows, and of one over trips

pub no_rows : (a b : Bool) (r old : ℕ) → old ≡ old + cond (a && nat_lt r 0 && b) 1 0
no_rows a b r old =
    let none : nat_lt r 0 ≡ false = grind (arith, nat_tests) in
    rw (none, never a) (omega arith)
  where
    never : (c : Bool) → (c && false && b) ≡ false
    never true = refl
    never false = refl

pub more_rows : (a b : Bool) (r n old before after : ℕ) → before ≡ old + cond (a && nat_lt r n && b) 1 0 → after ≡ before + cond (a && (r == n) && b) 1 0
    → after ≡ old + cond (a && nat_lt r (n + 1) && b) 1 0
more_rows true b r n old before after so_far more =
    more ∙ ap (λ m. m + cond ((r == n) && b) 1 0) so_far ∙ sums old (cond (nat_lt r n && b) 1 0) (cond ((r == n) && b) 1 0) ∙ ap (λ m. old + m) (one_more_below r n b)
  where
    sums : (x y z : ℕ) → x + y + z ≡ x + (y + z)
    sums x y z = omega arith
more_rows false b r n old before after so_far more = omega (arith, so_far, more)

pub all_rows : (a b : Bool) (r n : ℕ) → ((a && b) ≡ true → r < n) → (a && nat_lt r n && b) ≡ (a && b)
all_rows true true r n known = let before : nat_lt r n ≡ true = lt-ltb r n (known refl) in rw before refl
all_rows true false r n known = never (nat_lt r n)
  where
    never : (c : Bool) → (c && false) ≡ false
    never true = refl
    never false = refl
all_rows false b r n known = refl

pub no_trips : (x : ℕ) (b : Bool) → ◌≡◌ {A = ℕ} 0 (cond (nat_lt x 0 && b) 1 0)
no_trips x b = let none : nat_lt x 0 ≡ false = grind (arith, nat_tests) in rw none refl

pub more_trips : (x n : ℕ) (b : Bool) (before after : ℕ) → before ≡ cond (nat_lt x n && b) 1 0 → after ≡ before + cond ((x == n) && b) 1 0 → after ≡ cond (nat_lt x (n + 1) && b) 1 0
more_trips x n b before after so_far more = more ∙ ap (λ m. m + cond ((x == n) && b) 1 0) so_far ∙ one_more_below x n b

pub all_trips : (x n : ℕ) (b : Bool) → (b ≡ true → x < n) → (nat_lt x n && b) ≡ b
all_trips x n b known = all_rows true b x n known

-- ---- the steps of a loop that pushes what it makes of each number

pub nothing_yet : {X : Type 0} (f : ℕ → X) (rs : List ℕ) (xs : List X) → xs ≡ xs ++ map f (take 0 rs)
nothing_yet f rs [] = refl
nothing_yet f rs (x ∷ xs) = ap (λ ys. x ∷ ys) (nothing_yet f rs xs)

pub run_more : {X : Type 0} (f : ℕ → X) (rs : List ℕ) (n : ℕ) (old before after : List X) (y : X) → n < length rs
    → before ≡ old ++ map f (take n rs) → after ≡ before ++ y ∷ [] → y ≡ f (get_or rs n 0) → after ≡ old ++ map f (take (n + 1) rs)
run_more {X} f rs n old before after y within so_far pushed is =
    rw (add-one, take-suc rs n 0 within, map-append f (take n rs) (get_or rs n 0 ∷ []))
    (pushed ∙ (λ i. so_far i ++ is i ∷ []) ∙ assoc old (map f (take n rs)) (f (get_or rs n 0) ∷ []))
  where
    assoc : (xs ys zs : List X) → (xs ++ ys) ++ zs ≡ xs ++ (ys ++ zs)
    assoc [] ys zs = refl
    assoc (x ∷ xs) ys zs = ap (λ l. x ∷ l) (assoc xs ys zs)

-- nothing was added where nothing is counted
pub kept : (n : ℕ) (b : Bool) → b ≡ false → n ≡ n + cond b 1 0
kept n b none = rw none (omega arith)

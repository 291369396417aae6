-- The stops and platforms that have a parent: what one stop adds, and those of one parent.
use Rattle.std.proofs.Common.{◌≡◌, ◌≤◌, ◌<◌, ◌+◌, ◌-◌, ◌++◌, ◌∙◌, ◌&&◌, ◌==◌, ℕ, Bool, true, false, not, cond, List, [], ◌∷◌, length, filter, take, drop, get_or, Option, Some, None, nat_lt, refl, sym, ap, arith, rules, inl, inr}
use Rattle.std.specs.Prelude.{option_map}
use Rattle.std.specs.List.{All, slice_get}
use Rattle.std.specs.List.Sorted.{IsPartitionedBy, IsPermutation, IsSorted}
use Rattle.std.specs.Cmp.{IsTotalOrder}
use Rattle.std.specs.Cmp.Rules.{comparing}
use Rattle.std.specs.Ordering.{is_lt}
use Rattle.std.proofs.lemmas.Bool.{cases_Bool, eqb-true, false≢true, lt-ltb, ltb-true, ltb-false, ne_eqb}
use Rattle.std.proofs.lemmas.List.Sorted.{ranks_by, sorted_far}
use Rattle.std.proofs.lemmas.Option.{slice_get_within}
use Rattle.gtfs_field.proofs.NumberFacts.{number_itself as itself}
use Rattle.gtfs_field.proofs.OrderingFacts.{nat-less}
use Rattle.gtfs_schema.specs.FieldValues.{if_there}
use Rattle.gtfs_rows.specs.RowChoices.{location_code}
use Rattle.gtfs_stop_times.specs.declared.numbers.StopNo.{StopNo}
use Rattle.gtfs_rows.specs.declared.parts.Parts.{Parts}
use Rattle.gtfs_rows.specs.declared.stop.Stop.{Stop}
use Rattle.gtfs_runs.specs.Tallies.{tally}
use Rattle.gtfs_runs.specs.declared.stop_index.children.Child.{Child}
use Rattle.gtfs_runs.specs.steps.Children.{AreChildren, below_parent, child_cmp, is_child, is_pair}
use Rattle.gtfs_runs.proofs.NumberParts.{together}
use Rattle.gtfs_runs.proofs.Tallies.{kept, one_at, tally-permutation, tally-push}

-- ---- one stop

-- what is asked of its parent
pub child_of : (p : Parts) (s n : ℕ) (row : Stop) → slice_get p.stops n ≡ Some row
    → is_child p s n ≡ ((location_code row.location_type == 0) && not (n == s) && if_there (option_map (λ m. m.0) row.parent_station) (λ m. s == m))
child_of p s n row at =
    ap (λ o. if_there o (λ r. (location_code r.location_type == 0) && not (n == s) && if_there (option_map (λ m. m.0) r.parent_station) (λ m. s == m))) at

-- a stop without a parent is no child
pub orphan : (a b : Bool) (o : Option StopNo) (q : ℕ → Bool) → o ≡ None → false ≡ (a && b && if_there (option_map (λ m. m.0) o) q)
orphan a b o q none = rw none (never (a && b))
  where
    never : (c : Bool) → false ≡ (c && false)
    never true = refl
    never false = refl

-- one that is no stop or platform, or its own parent, neither
pub no_child : (n code m s : ℕ) → (code ≡ 0 → m ≡ n) → false ≡ ((code == 0) && not (n == s) && (s == m))
no_child n code m s own = elim (cases_Bool (code == 0)) [
  | inr other ↦ rw other refl
  | inl plain ↦ elim (cases_Bool (s == m)) [
    | inr apart ↦ rw apart (never ((code == 0) && not (n == s)))
    | inl same ↦
        let is : s ≡ n = eqb-true s m same ∙ own (eqb-true code 0 plain) in
        let self : (n == s) ≡ true = ap (λ k. n == k) is ∙ itself n in
        rw (self, plain) refl
  ]
]
  where
    never : (c : Bool) → false ≡ (c && false)
    never true = refl
    never false = refl

-- any other is that of its parent
pub own_child : (n code m s : ℕ) → code ≡ 0 → (m ≡ n → ⊥) → (s == m) ≡ ((code == 0) && not (n == s) && (s == m))
own_child n code m s plain apart = elim (cases_Bool (s == m)) [
  | inr other ↦ rw other (never ((code == 0) && not (n == s)))
  | inl same ↦
      let other : (n == s) ≡ false = ne_eqb n s (λ is. apart (sym (eqb-true s m same) ∙ sym is)) in
      let zero_is : (code == 0) ≡ true = ap (λ k. k == 0) plain in
      rw (same, other, zero_is) refl
]
  where
    never : (c : Bool) → false ≡ (c && false)
    never true = refl
    never false = refl

-- it is added, or nothing is
pub child_added : (p : Parts) (n : ℕ) (o : Option StopNo) (parent : StopNo) (old new : List Child) (x : Child) → ((s : ℕ) → if_there (option_map (λ m. m.0) o) (λ m. s == m) ≡ is_child p s n)
    → o ≡ Some parent → x ≡ record { parent = parent.0; stop = n } → new ≡ old ++ x ∷ []
    → (s m : ℕ) → tally (is_pair s m) new ≡ tally (is_pair s m) old + cond ((m == n) && is_child p s m) 1 0
child_added p n o parent old new x told is made pushed s m =
    ap (tally (is_pair s m)) pushed ∙ tally-push (is_pair s m) old x ∙ ap (λ y. tally (is_pair s m) old + cond (is_pair s m y) 1 0) made
    ∙ ap (λ b. tally (is_pair s m) old + cond b 1 0) here
  where
    turned : (a b : ℕ) → (a == b) ≡ (b == a)
    turned a b = elim (cases_Bool (a == b)) [
      | inl same ↦ same ∙ sym (ap (λ k. b == k) (eqb-true a b same) ∙ itself b)
      | inr other ↦ other ∙ sym (ne_eqb b a (λ same. let holds : (a == b) ≡ true = ap (λ k. a == k) same ∙ itself a in false≢true (sym other ∙ holds)))
    ]

    here : ((m == n) && (parent.0 == s)) ≡ ((m == n) && is_child p s m)
    here = elim (cases_Bool (m == n)) [
      | inl same ↦
          ap (λ b. (m == n) && b) (turned parent.0 s ∙ sym (ap (λ v. if_there (option_map (λ k. k.0) v) (λ k. s == k)) is) ∙ told s ∙ ap (is_child p s) (sym (eqb-true m n same)))
      | inr other ↦ rw other refl
    ]

pub child_passed : (p : Parts) (n : ℕ) (o : Option StopNo) (old : List Child) → ((s : ℕ) → if_there (option_map (λ m. m.0) o) (λ m. s == m) ≡ is_child p s n) → o ≡ None
    → (s m : ℕ) → tally (is_pair s m) old ≡ tally (is_pair s m) old + cond ((m == n) && is_child p s m) 1 0
child_passed p n o old told none s m = kept (tally (is_pair s m) old) _ here
  where
    here : ((m == n) && is_child p s m) ≡ false
    here = elim (cases_Bool (m == n)) [
      | inl same ↦ ap (λ b. b && is_child p s m) same ∙ ap (is_child p s) (eqb-true m n same) ∙ sym (told s) ∙ ap (λ v. if_there (option_map (λ k. k.0) v) (λ k. s == k)) none
      | inr other ↦ rw other refl
    ]

-- a child is one of the stops
pub child_within : (p : Parts) (s n : ℕ) → is_child p s n ≡ true → n < length p.stops
child_within p s n holds = there (slice_get p.stops n) refl holds
  where
    there : (o : Option Stop) → slice_get p.stops n ≡ o
        → if_there o (λ r. (location_code r.location_type == 0) && not (n == s) && if_there (option_map (λ m. m.0) r.parent_station) (λ m. s == m)) ≡ true → n < length p.stops
    there None at none = absurd (false≢true none)
    there (Some r) at some = slice_get_within p.stops n r at

-- ---- all, by parent

pub children_total : IsTotalOrder child_cmp
children_total = search (comparing, rules) depth 20

pub are-children : (p : Parts) (found sorted : List Child) → ((s n : ℕ) → tally (is_pair s n) found ≡ cond (is_child p s n) 1 0)
    → IsPermutation found sorted → IsSorted child_cmp sorted → AreChildren p sorted
are-children p found sorted told same up = record { in_order = up; told = λ s n. tally-permutation (is_pair s n) found sorted same ∙ told s n }

pub parents_rise : (xs : List Child) → IsSorted child_cmp xs → (i j : ℕ) (d : Child) → i ≤ j → j < length xs → (get_or xs i d).parent ≤ (get_or xs j d).parent
parents_rise xs up i j d before within =
    let a = get_or xs i d in
    let b = get_or xs j d in
    let far = sorted_far (λ x y. is_lt (child_cmp x y)) (ranks_by children_total (λ x. x)) xs up i j d before within in
    elim (cases_Bool (nat_lt b.parent a.parent)) [
      | inl lower ↦ absurd (false≢true (sym far ∙ first_less b a (ltb-true b.parent a.parent lower)))
      | inr not_lower ↦ ltb-false b.parent a.parent not_lower
    ]
  where
    first_less : (x y : Child) → x.parent < y.parent → is_lt (child_cmp x y) ≡ true
    first_less x y less = rw (nat-less x.parent y.parent less) refl

pub lower_first : (xs : List Child) (s : ℕ) → IsSorted child_cmp xs → IsPartitionedBy (λ x. nat_lt x.parent s) xs
lower_first xs s up i j d before within below =
    lt-ltb (get_or xs i d).parent s (let rise = parents_rise xs up i j d before within in omega (arith, rise, ltb-true (get_or xs j d).parent s below))

-- those of a parent, as the code cuts them out
pub cut : (xs : List Child) (s : ℕ) → IsSorted child_cmp xs
    → take (below_parent xs (s + 1) - below_parent xs s) (drop (below_parent xs s) xs) ≡ filter (λ x. x.parent == s) xs
cut xs s up = together (λ x. x.parent) xs s (λ i j d before within. parents_rise xs up i j d (omega (arith, before)) within)

pub starts_rise : (xs : List Child) (s : ℕ) → below_parent xs s ≤ below_parent xs (s + 1)
starts_rise [] s = omega arith
starts_rise (x ∷ xs) s = let one = more x.parent s in omega (arith, one, starts_rise xs s)
  where
    more : (m n : ℕ) → cond (nat_lt m n) 1 0 ≤ cond (nat_lt m (n + 1)) 1 0
    more m n = elim (cases_Bool (nat_lt m n)) [
      | inl is ↦ let next : nat_lt m (n + 1) ≡ true = lt-ltb m (n + 1) (let below = ltb-true m n is in omega (arith, below)) in rw (is, next) (omega arith)
      | inr isnt ↦ rw isnt (omega arith)
    ]

pub starts_within : (xs : List Child) (s : ℕ) → below_parent xs s ≤ length xs
starts_within [] s = omega arith
starts_within (x ∷ xs) s = let one = at_most (nat_lt x.parent s) in omega (arith, one, starts_within xs s)
  where
    at_most : (b : Bool) → cond b 1 0 ≤ 1
    at_most true = omega arith
    at_most false = omega arith

-- ---- those of one parent

tally-filter : {X : Type 0} (q f : X → Bool) (xs : List X) → tally q (filter f xs) ≡ tally (λ x. q x && f x) xs
tally-filter q f [] = refl
tally-filter q f (x ∷ xs) = elim (cases_Bool (f x)) [
  | inl in_it ↦ rw in_it (λ i. cond (sym (alone (q x)) i) 1 0 + tally-filter q f xs i)
  | inr out ↦ rw out (tally-filter q f xs ∙ nothing (tally (λ y. q y && f y) xs) (q x))
]
  where
    alone : (b : Bool) → (b && true) ≡ b
    alone true = refl
    alone false = refl

    nothing : (n : ℕ) (b : Bool) → n ≡ cond (b && false) 1 0 + n
    nothing n true = omega arith
    nothing n false = omega arith

pub own_children : (p : Parts) (xs : List Child) (s : ℕ) → AreChildren p xs → (n : ℕ) → tally (λ x. n == x.stop) (filter (λ x. x.parent == s) xs) ≡ cond (is_child p s n) 1 0
own_children p xs s are n = tally-filter (λ x. n == x.stop) (λ x. x.parent == s) xs ∙ are.told s n

-- each is one of the stops
pub children_within : (p : Parts) (xs : List Child) (s : ℕ) → ((n : ℕ) → tally (λ x. n == x.stop) xs ≡ cond (is_child p s n) 1 0) → All (λ x. x.stop < length p.stops) xs
children_within p xs s told k d within = elim (cases_Bool (is_child p s (get_or xs k d).stop)) [
  | inl is ↦ child_within p s (get_or xs k d).stop is
  | inr isnt ↦
      let n = (get_or xs k d).stop in
      let some = one_at (λ x. n == x.stop) xs k d within (itself n) in
      let none : tally (λ x. n == x.stop) xs ≡ 0 = told n ∙ ap (λ b. cond b 1 0) isnt in
      absurd (omega (arith, some, none))
]

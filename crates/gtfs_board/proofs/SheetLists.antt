-- Lists in order, and members of lists.
use Rattle.std.proofs.Common.{append-nil, ◌≡◌, ◌<◌, ◌≤◌, ◌+◌, ◌++◌, ◌&&◌, ℕ, suc, Bool, true, false, cond, not, List, [], ◌∷◌, length, map, take, add-one, get_or, refl, sym, ap, subst, ◌∙◌, inl, inr, arith, find, Some}
use Rattle.std.specs.Cmp.{IsTotalOrder, tied_itself}
use Rattle.std.specs.declared.cmp.Ordering.{Ordering}
use Rattle.std.specs.declared.cmp.Ordering.TheVariants.{Less, Equal, Greater}
use Rattle.std.specs.Ordering.{is_lt, ordering_reverse}
use Rattle.std.specs.List.{All, AllPairs, filter, flat_map, range_with_len}
use Rattle.std.specs.List.Sorted.{IsSorted}
use Rattle.std.proofs.Math.Seq.{take-suc}
use Rattle.std.proofs.lemmas.Grind.{flat_map-append}
use Rattle.std.proofs.lemmas.List.{map-append}
use Rattle.std.proofs.lemmas.List.Elements.{filter-append}
use Rattle.std.proofs.lemmas.List.FromFn.{map-range_with_len_more}
use Rattle.std.proofs.lemmas.Option.{get_or_from_slice_get, slice_get-get_or}
use Rattle.std.proofs.lemmas.Bool.{cases_Bool, true≢false}
use Rattle.std.proofs.lemmas.List.Sorted.{ranks_by, sorted_far}
use Rattle.gtfs_runs.specs.Tallies.{tally}
use Rattle.gtfs_runs.proofs.Tallies.{counted}
use Rattle.gtfs_board.specs.upcoming.QueueOrder.{In, Each, AscendsBy}

-- ---- members

module _ {X : Type 0} (q : X → Bool) where
  -- a member that passes is counted
  pub in-counted : (xs : List X) (x : X) → In x xs → q x ≡ true → 1 ≤ tally q xs
  in-counted [] x here passes = absurd here
  in-counted (y ∷ ys) x here passes = elim here [
    | inl e ↦ omega (arith, counted (q y) (ap q (sym e) ∙ passes))
    | inr later ↦ omega (arith, in-counted ys x later passes)
  ]

  -- where some are counted a member passes
  pub counted-in : (xs : List X) → 1 ≤ tally q xs → (x : X) × (In x xs × (q x ≡ true))
  counted-in [] some = absurd (omega (arith, some))
  counted-in (y ∷ ys) some = elim (cases_Bool (q y)) [
    | inl is ↦ (y, (inl refl, is))
    | inr isnt ↦ let r = counted-in ys (rest (q y) (tally q ys) isnt some) in (r.0, (inr r.1.0, r.1.1))
  ]
    where
      rest : (b : Bool) (n : ℕ) → b ≡ false → 1 ≤ cond b 1 0 + n → 1 ≤ n
      rest true n is h = absurd (true≢false is)
      rest false n is h = omega (arith, h)

  -- of two members that pass, where one is counted
  pub counted-one : (x y : X) (xs : List X) → q x ≡ true → q y ≡ true → In y xs → tally q (x ∷ xs) ≤ 1 → ⊥
  counted-one x y xs first second there once =
      let a = counted (q x) first in
      let b = in-counted xs y there second in
      omega (arith, a, b, once)

  pub fewer : (x : X) (xs : List X) → tally q (x ∷ xs) ≤ 1 → tally q xs ≤ 1
  fewer x xs once = omega (arith, once)

-- what two functions make alike of each member
pub map-agree : {X Y : Type 0} (f g : X → Y) (xs : List X) → ((x : X) → In x xs → f x ≡ g x) → map f xs ≡ map g xs
map-agree f g [] same = refl
map-agree f g (x ∷ xs) same = λ i. same x (inl refl) i ∷ map-agree f g xs (λ y there. same y (inr there)) i

-- the one member that passes is found
pub find-one : {X : Type 0} (q : X → Bool) (xs : List X) (x : X) → In x xs → q x ≡ true → ((y : X) → In y xs → q y ≡ true → y ≡ x) → find q xs ≡ Some x
find-one q [] x here passes alone = absurd here
find-one q (y ∷ ys) x here passes alone = elim (cases_Bool (q y)) [
  | inl is ↦ rw is (ap Some (alone y (inl refl) is))
  | inr isnt ↦ rw isnt (elim here [
    | inl e ↦ absurd (true≢false (sym passes ∙ ap q e ∙ isnt))
    | inr later ↦ find-one q ys x later passes (λ z there. alone z (inr there))
  ])
]

-- a list of one where there is something
pub some-mapped : {X Y : Type 0} (q none : X → Bool) (g : X → Y) (xs : List X)
    → flat_map (λ x. cond (none x) [] (g x ∷ [])) (filter q xs) ≡ map g (filter (λ x. q x && not (none x)) xs)
some-mapped q none g [] = refl
some-mapped q none g (x ∷ xs) = elim (cases_Bool (q x)) [
  | inl is ↦ elim (cases_Bool (none x)) [
    | inl empty ↦ rw (is, empty) (some-mapped q none g xs)
    | inr some ↦ rw (is, some) (ap (λ l. g x ∷ l) (some-mapped q none g xs))
  ]
  | inr isnt ↦ rw isnt (some-mapped q none g xs)
]

-- ---- ascending lists

module _ {X : Type 0} {R : X → X → Ordering} (o : IsTotalOrder R) (same : X → X → Bool) (ties : (x y : X) → R x y ≡ Equal → same x y ≡ true) where
  abbrev lt : X → X → Bool
  lt x y = is_lt (R x y)

  pub below : (r q : Ordering) → q ≡ ordering_reverse r → is_lt q ≡ false → (r ≡ Equal → ⊥) → is_lt r ≡ true
  below Less q turned far apart = refl
  below Equal q turned far apart = absurd (apart refl)
  below Greater q turned far apart = absurd (true≢false (sym (ap is_lt turned) ∙ far))

  each-below : (x : X) (ys : List X) → All (λ y. is_lt (R y x) ≡ false) ys → ((y : X) → In y ys → R x y ≡ Equal → ⊥) → Each (λ y. lt x y ≡ true) ys
  each-below x [] far apart = tt
  each-below x (y ∷ ys) far apart = (
    below (R x y) (R y x) (o.antisymm y x) (far 0 y (omega arith)) (apart y (inl refl)),
    each-below x ys (λ k d h. far (suc k) d (omega arith)) (λ z there. apart z (inr there)),
  )

  from-far : (xs : List X) → AllPairs (λ x y. is_lt (R y x) ≡ false) xs → ((x : X) → tally (same x) xs ≤ 1) → AscendsBy lt xs
  from-far [] far once = tt
  from-far (x ∷ xs) far once = (
    each-below x xs (λ k d h. far 0 (suc k) d (omega arith) (omega arith))
        (λ y there tie. counted-one (same x) x y xs (ties x x (tied_itself o x)) (ties x y tie) there (once x)),
    from-far xs (λ i j d h l. far (suc i) (suc j) d (omega arith) (omega arith)) (λ y. fewer (same y) x xs (once y)),
  )

  -- a sorted list in which nothing stands twice ascends
  pub sorted-ascends : (xs : List X) → IsSorted R xs → ((x : X) → tally (same x) xs ≤ 1) → AscendsBy lt xs
  sorted-ascends xs up once =
      from-far xs (λ i j d before within. sorted_far (λ x y. is_lt (R x y)) (ranks_by o (λ x. x)) xs up i j d (omega arith) within) once

module _ {X : Type 0} (lt : X → X → Bool) where
  pub ascending-mapped : {Y : Type 0} (below : Y → Y → Bool) (f : X → Y) (xs : List X) → ((x y : X) → In x xs → In y xs → lt x y ≡ true → below (f x) (f y) ≡ true)
      → AscendsBy lt xs → AscendsBy below (map f xs)
  ascending-mapped below f [] rises up = tt
  ascending-mapped below f (x ∷ xs) rises up = (
    each xs (λ y there. rises x y (inl refl) (inr there)) up.0,
    ascending-mapped below f xs (λ y z a b. rises y z (inr a) (inr b)) up.1,
  )
    where
      each : (ys : List X) → ((y : X) → In y ys → lt x y ≡ true → below (f x) (f y) ≡ true) → Each (λ y. lt x y ≡ true) ys → Each (λ y. below (f x) y ≡ true) (map f ys)
      each [] h all = tt
      each (y ∷ ys) h all = (h y (inl refl) all.0, each ys (λ z there. h z (inr there)) all.1)

  pub ascending-kept : (q : X → Bool) (xs : List X) → AscendsBy lt xs → AscendsBy lt (filter q xs)
  ascending-kept q [] up = tt
  ascending-kept q (x ∷ xs) up = elim (cases_Bool (q x)) [
    | inl is ↦ rw is (kept xs up.0, ascending-kept q xs up.1)
    | inr isnt ↦ rw isnt (ascending-kept q xs up.1)
  ]
    where
      kept : (ys : List X) → Each (λ y. lt x y ≡ true) ys → Each (λ y. lt x y ≡ true) (filter q ys)
      kept [] all = tt
      kept (y ∷ ys) all = elim (cases_Bool (q y)) [
        | inl is ↦ rw is (all.0, kept ys all.1)
        | inr isnt ↦ rw isnt (kept ys all.1)
      ]

  each-is : (P : X → Type 0) (xs : List X) (x : X) → Each P xs → In x xs → P x
  each-is P [] x all here = absurd here
  each-is P (y ∷ ys) x all here = elim here [ inl e ↦ subst P (sym e) all.0 | inr later ↦ each-is P ys x all.1 later ]

  -- two members of an ascending list neither of which lies below the other
  pub ascending-one : (xs : List X) (x y : X) → AscendsBy lt xs → In x xs → In y xs → (lt x y ≡ true → ⊥) → (lt y x ≡ true → ⊥) → x ≡ y
  ascending-one [] x y up in_x in_y not_below not_above = absurd in_x
  ascending-one (z ∷ zs) x y up in_x in_y not_below not_above = elim in_x [
    | inl first ↦ elim in_y [
      | inl second ↦ first ∙ sym second
      | inr later ↦ absurd (not_below (ap (λ w. lt w y) first ∙ each-is (λ w. lt z w ≡ true) zs y up.0 later))
    ]
    | inr there ↦ elim in_y [
      | inl second ↦ absurd (not_above (ap (λ w. lt w x) second ∙ each-is (λ w. lt z w ≡ true) zs x up.0 there))
      | inr later ↦ ascending-one zs x y up.1 there later not_below not_above
    ]
  ]

-- ---- the steps of loops that push

pub mapped-more : {X Y Z : Type 0} (g : Y → Z) (f : X → Z) (xs : List X) (n : ℕ) (x : X) (old new : List Y) (y : Y) → n < length xs → x ≡ get_or xs n x
    → map g old ≡ map f (take n xs) → new ≡ old ++ y ∷ [] → g y ≡ f x → map g new ≡ map f (take (n + 1) xs)
mapped-more g f xs n x old new y within item so_far pushed is =
    rw (add-one, take-suc xs n x within, map-append f (take n xs) (get_or xs n x ∷ []))
    (ap (map g) pushed ∙ map-append g old (y ∷ []) ∙ (λ i. so_far i ++ (is ∙ ap f item) i ∷ []))

pub ranged-pushed : {Z : Type 0} (f : ℕ → Z) (n : ℕ) (old new : List Z) (z : Z) → old ≡ map f (range_with_len 0 n) → new ≡ old ++ z ∷ [] → z ≡ f n → new ≡ map f (range_with_len 0 (n + 1))
ranged-pushed f n old new z so_far pushed is = pushed ∙ (λ i. so_far i ++ is i ∷ []) ∙ sym (map-range_with_len_more f 0 n n (omega arith))

-- the element at an index, whatever the default
pub item-at : {X : Type 0} (xs : List X) (n : ℕ) (d : X) → n < length xs → get_or xs n d ≡ get_or xs n (get_or xs n d)
item-at xs n d within = sym (get_or_from_slice_get xs n (get_or xs n d) (get_or xs n d) (slice_get-get_or xs n d within))

-- of a list of those that pass
module _ {X Z : Type 0} (q : X → Bool) (f : X → List Z) (xs : List X) (n : ℕ) (x : X) where
  taken : n < length xs → x ≡ get_or xs n x → take (n + 1) xs ≡ take n xs ++ x ∷ []
  taken within item = rw (add-one, take-suc xs n x within) (ap (λ y. take n xs ++ y ∷ []) (sym item))

  pub taken-in : (old new : List Z) → n < length xs → x ≡ get_or xs n x → q x ≡ true → old ≡ flat_map f (filter q (take n xs)) → new ≡ old ++ f x
      → new ≡ flat_map f (filter q (take (n + 1) xs))
  taken-in old new within item passes so_far more =
      let one : filter q (x ∷ []) ≡ x ∷ [] = rw passes refl in
      more ∙ (λ i. so_far i ++ sym (append-nil (f x)) i) ∙ sym (flat_map-append f (filter q (take n xs)) (x ∷ []))
      ∙ ap (λ l. flat_map f (filter q (take n xs) ++ l)) (sym one) ∙ ap (flat_map f) (sym (filter-append q (take n xs) (x ∷ [])))
      ∙ ap (λ l. flat_map f (filter q l)) (sym (taken within item))

  pub left-out : (old : List Z) → n < length xs → x ≡ get_or xs n x → q x ≡ false → old ≡ flat_map f (filter q (take n xs)) → old ≡ flat_map f (filter q (take (n + 1) xs))
  left-out old within item fails so_far =
      let none : filter q (x ∷ []) ≡ [] = rw fails refl in
      so_far ∙ ap (flat_map f) (sym (append-nil (filter q (take n xs))) ∙ ap (λ l. filter q (take n xs) ++ l) (sym none) ∙ sym (filter-append q (take n xs) (x ∷ []))
      ∙ ap (filter q) (sym (taken within item)))

-- ---- counts

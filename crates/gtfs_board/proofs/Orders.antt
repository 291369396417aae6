use Rattle.std.specs.List.{All, AllByRecursion}
use Rattle.std.proofs.Common.{◌≡◌, Bool, true, false, List, [], ◌∷◌, ◌++◌, ◌⊎◌, inl, inr, Some, None, refl, sym, ◌∙◌, ap, subst, arith, find}
use Rattle.std.proofs.lemmas.List.Elements.{All-tail}
use Rattle.std.proofs.lemmas.Bool.{true≢false, false≢true, cases_Bool}
use Rattle.gtfs_board.specs.upcoming.QueueOrder.{IsStrict, In, Each, AscendsBy, same, IsUpward}

module _ {C : Type 0} (P : C → Type 0) where
  pub Each-in : (xs : List C) (x : C) → Each P xs → In x xs → P x
  Each-in [] x all here = absurd here
  Each-in (y ∷ ys) x all here = elim here [ inl e ↦ subst P (sym e) all.0 | inr later ↦ Each-in ys x all.1 later ]

module _ {C : Type 0} (p q : C → Bool) where
  pub find-agree : (xs : List C) → ((x : C) → In x xs → p x ≡ q x) → find p xs ≡ find q xs
  find-agree [] h = refl
  find-agree (x ∷ xs) h = rw (h x (inl refl), find-agree xs (λ y i. h y (inr i))) refl

module _ {C : Type 0} (p : C → Bool) where
  pub find-in : (xs : List C) (h : C) → find p xs ≡ Some h → In h xs
  find-in [] h e = absurd (cc)
  find-in (x ∷ xs) h e = elim (cases_Bool (p x)) [
    | inl is ↦ let e2 = rw is at e in inl (cc)
    | inr isnt ↦ let e2 = rw isnt at e in inr (find-in xs h e2)
  ]

  pub find-none : (xs : List C) → ((x : C) → In x xs → p x ≡ false) → find p xs ≡ None
  find-none [] h = refl
  find-none (x ∷ xs) h = rw (h x (inl refl)) (find-none xs (λ y there. h y (inr there)))

module _ {C : Type 0} {lt : C → C → Bool} (o : IsStrict lt) where
  pub same-self : (x : C) → same lt x x ≡ true
  same-self x = rw (o.irrefl x) refl

  pub same-is : (x y : C) → same lt x y ≡ true → x ≡ y
  same-is x y e = elim (cases_Bool (lt x y)) [
    | inl is ↦ absurd (false≢true (rw is at e))
    | inr isnt ↦ elim (cases_Bool (lt y x)) [
      | inl is ↦ absurd (false≢true (rw (isnt, is) at e))
      | inr isnt2 ↦ o.exact x y isnt isnt2
    ]
  ]

  -- in an ascending list the first that passes lies at or below each that passes
  pub find-least : (p : C → Bool) → IsUpward lt p → (xs : List C) → AscendsBy lt xs → (x : C) → In x xs → p x ≡ true
      → (h : C) × (find p xs ≡ Some h) × ((x ≡ h) ⊎ (lt h x ≡ true))
  find-least p up [] a x here is = absurd here
  find-least p up (y ∷ ys) a x here is = elim (cases_Bool (p y)) [
    | inl now ↦ (y, rw now refl, elim here [ inl e ↦ inl e | inr later ↦ inr (Each-in (λ z. lt y z ≡ true) ys x a.0 later) ])
    | inr isnt ↦ elim here [
      | inl e ↦ absurd (true≢false (sym is ∙ ap p e ∙ isnt))
      | inr later ↦ let r = find-least p up ys a.1 x later is in (r.0, rw isnt r.1, r.2)
    ]
  ]

pub each_from_recursion : {C : Type 0} (P : C → Type 0) (xs : List C) → AllByRecursion P xs → Each P xs
each_from_recursion P [] h = tt
each_from_recursion P (x ∷ xs) h = (h.0, each_from_recursion P xs h.1)

pub in-left : {A : Type 0} (xs ys : List A) (x : A) → In x xs → In x (xs ++ ys)
in-left [] ys x here = absurd here
in-left (y ∷ xs) ys x here = elim here [ inl e ↦ inl e | inr later ↦ inr (in-left xs ys x later) ]

pub in-right : {A : Type 0} (xs ys : List A) (x : A) → In x ys → In x (xs ++ ys)
in-right [] ys x here = here
in-right (y ∷ xs) ys x here = inr (in-right xs ys x here)

pub in-either : {A : Type 0} (xs ys : List A) (x : A) → In x (xs ++ ys) → In x xs ⊎ In x ys
in-either [] ys x here = inr here
in-either (z ∷ xs) ys x here = elim here [ inl e ↦ inl (inl e) | inr later ↦ elim (in-either xs ys x later) [ inl a ↦ inl (inr a) | inr b ↦ inr b ] ]

pub each-all : {A : Type 0} (P : A → Type 0) (xs : List A) → All P xs → Each P xs
each-all P [] all = tt
each-all P (x ∷ xs) all = (all 0 x (omega arith), each-all P xs (All-tail P x xs all))

use Rattle.std.proofs.Common.{◌≡◌, Bool, true, List, [], ◌∷◌, ◌⊎◌, inl, inr, refl, sym, ◌∙◌, ap, subst}
use Rattle.std.specs.List.{filter}
use Rattle.std.proofs.lemmas.Bool.{false≢true, cases_Bool}
use Rattle.gtfs_board.specs.upcoming.QueueOrder.{IsStrict, In, AscendsBy, IsUpward, put_in, ascending_by}
use Rattle.gtfs_board.specs.upcoming.OpenedLanes.{rest_of}
use Rattle.gtfs_board.proofs.Orders.{Each-in}
use Rattle.gtfs_board.proofs.Window.{each_in, each_weaker}

module _ {C : Type 0} (p : C → Bool) where
  pub in-filter : (xs : List C) (x : C) → In x xs → p x ≡ true → In x (filter p xs)
  in-filter [] x here passes = absurd here
  in-filter (y ∷ ys) x here passes = elim here [
    | inl e ↦ let is : p y ≡ true = ap p (sym e) ∙ passes in rw is (inl e)
    | inr later ↦
        let rest = in-filter ys x later passes in
        elim (cases_Bool (p y)) [ inl is ↦ rw is (inr rest) | inr isnt ↦ rw isnt rest ]
  ]

  pub filter-in : (xs : List C) (x : C) → In x (filter p xs) → In x xs × (p x ≡ true)
  filter-in [] x here = absurd here
  filter-in (y ∷ ys) x here = elim (cases_Bool (p y)) [
    | inl is ↦ elim (rw is at here) [
      | inl e ↦ (inl e, ap p e ∙ is)
      | inr later ↦ let r = filter-in ys x later in (inr r.0, r.1)
    ]
    | inr isnt ↦ let r = filter-in ys x (rw isnt at here) in (inr r.0, r.1)
  ]

module _ {C : Type 0} {lt : C → C → Bool} (o : IsStrict lt) where
  in-put : (x y : C) (ys : List C) → (y ≡ x) ⊎ In y ys → In y (put_in lt x ys)
  in-put x y [] here = elim here [ inl e ↦ inl e | inr later ↦ absurd later ]
  in-put x y (z ∷ zs) here = elim (cases_Bool (lt x z)) [
    | inl is ↦ rw is here
    | inr isnt ↦ elim (cases_Bool (lt z x)) [
      | inl above ↦ rw (isnt, above) (elim here [
        | inl e ↦ inr (in-put x y zs (inl e))
        | inr later ↦ elim later [ inl e ↦ inl e | inr more ↦ inr (in-put x y zs (inr more)) ]
      ])
      | inr neither ↦ rw (isnt, neither) (elim here [
        | inl e ↦ inl (e ∙ o.exact x z isnt neither)
        | inr later ↦ later
      ])
    ]
  ]

  put-in : (x y : C) (ys : List C) → In y (put_in lt x ys) → (y ≡ x) ⊎ In y ys
  put-in x y [] here = here
  put-in x y (z ∷ zs) here = elim (cases_Bool (lt x z)) [
    | inl is ↦ rw is at here
    | inr isnt ↦ elim (cases_Bool (lt z x)) [
      | inl above ↦ elim (rw (isnt, above) at here) [
        | inl e ↦ inr (inl e)
        | inr later ↦ elim (put-in x y zs later) [ inl e ↦ inl e | inr more ↦ inr (inr more) ]
      ]
      | inr neither ↦ inr (rw (isnt, neither) at here)
    ]
  ]

  ascending-put : (x : C) (ys : List C) → AscendsBy lt ys → AscendsBy lt (put_in lt x ys)
  ascending-put x [] a = (tt, tt)
  ascending-put x (z ∷ zs) a = elim (cases_Bool (lt x z)) [
    | inl is ↦ rw is ((is, each_weaker (λ y. lt z y ≡ true) (λ y. lt x y ≡ true) (λ y h. o.trans x z y is h) zs a.0), a)
    | inr isnt ↦ elim (cases_Bool (lt z x)) [
      | inl above ↦ rw (isnt, above) (
        each_in (λ y. lt z y ≡ true) (put_in lt x zs) (λ y there. elim (put-in x y zs there) [
          | inl e ↦ ap (lt z) e ∙ above
          | inr more ↦ Each-in (λ y. lt z y ≡ true) zs y a.0 more
        ]),
        ascending-put x zs a.1,
      )
      | inr neither ↦ rw (isnt, neither) a
    ]
  ]

  pub ascending-in_order : (xs : List C) → AscendsBy lt (ascending_by lt xs)
  ascending-in_order [] = tt
  ascending-in_order (x ∷ xs) = ascending-put x (ascending_by lt xs) (ascending-in_order xs)

  pub in-in_order : (xs : List C) (y : C) → In y xs → In y (ascending_by lt xs)
  in-in_order [] y here = here
  in-in_order (x ∷ xs) y here = in-put x y (ascending_by lt xs) (elim here [ inl e ↦ inl e | inr later ↦ inr (in-in_order xs y later) ])

  pub in_order-in : (xs : List C) (y : C) → In y (ascending_by lt xs) → In y xs
  in_order-in [] y here = here
  in_order-in (x ∷ xs) y here = elim (put-in x y (ascending_by lt xs) here) [ inl e ↦ inl e | inr later ↦ inr (in_order-in xs y later) ]

  not_self : (x y : C) → lt x y ≡ true → x ≡ y → ⊥
  not_self x y h e = false≢true (sym (o.irrefl x) ∙ ap (lt x) e ∙ h)

  -- ascending lists of the same members are one
  pub ascending-unique : (xs ys : List C) → AscendsBy lt xs → AscendsBy lt ys → ((x : C) → In x xs → In x ys) → ((x : C) → In x ys → In x xs) → xs ≡ ys
  ascending-unique [] [] a b to from = refl
  ascending-unique [] (y ∷ ys) a b to from = absurd (from y (inl refl))
  ascending-unique (x ∷ xs) [] a b to from = absurd (to x (inl refl))
  ascending-unique (x ∷ xs) (y ∷ ys) a b to from =
      let heads : x ≡ y = elim (to x (inl refl)) [
        | inl e ↦ e
        | inr later ↦ elim (from y (inl refl)) [
          | inl e ↦ sym e
          | inr back ↦
              let down = Each-in (λ z. lt y z ≡ true) ys x b.0 later in
              let up = Each-in (λ z. lt x z ≡ true) xs y a.0 back in
              absurd (not_self x x (o.trans x y x up down) refl)
        ]
      ] in
      let tails : xs ≡ ys = ascending-unique xs ys a.1 b.1
      (λ z there. elim (to z (inr there)) [
        | inl e ↦ absurd (not_self x z (Each-in (λ w. lt x w ≡ true) xs z a.0 there) (heads ∙ sym e))
        | inr more ↦ more
      ])
      (λ z there. elim (from z (inr there)) [
        | inl e ↦ absurd (not_self y z (Each-in (λ w. lt y w ≡ true) ys z b.0 there) (sym heads ∙ sym e))
        | inr more ↦ more
      ]) in
      cc

  -- the first of the rest is the least above the floor, and what follows it is the rest above it
  pub rest_taken : (all : List C) (p : C → Bool) (c : C) → IsUpward lt p → In c all → p c ≡ true
      → ((y : C) → In y all → p y ≡ true → (y ≡ c) ⊎ (lt c y ≡ true))
      → rest_of lt all p ≡ c ∷ rest_of lt all (lt c)
  rest_taken all p c up there passes least = ascending-unique (rest_of lt all p) (c ∷ rest_of lt all (lt c))
      (ascending-in_order (filter p all))
      (each_in (λ y. lt c y ≡ true) (rest_of lt all (lt c)) (λ y h. (filter-in (lt c) all y (in_order-in (filter (lt c) all) y h)).1), ascending-in_order (filter (lt c) all))
      (λ x h.
      let f = filter-in p all x (in_order-in (filter p all) x h) in
      elim (least x f.0 f.1) [ inl e ↦ inl e | inr above ↦ inr (in-in_order (filter (lt c) all) x (in-filter (lt c) all x f.0 above)) ])
      (λ x h. in-in_order (filter p all) x (elim h [
        | inl e ↦ in-filter p all x (subst (λ z. In z all) (sym e) there) (ap p e ∙ passes)
        | inr later ↦ let f = filter-in (lt c) all x (in_order-in (filter (lt c) all) x later) in in-filter p all x f.0 (up c x f.1 passes)
      ]))

  -- nothing is left where nothing passes
  pub rest_empty : (all : List C) (p : C → Bool) → ((y : C) → In y all → p y ≡ true → ⊥) → rest_of lt all p ≡ []
  rest_empty all p none = ascending-unique (rest_of lt all p) [] (ascending-in_order (filter p all)) tt
      (λ x h. let f = filter-in p all x (in_order-in (filter p all) x h) in none x f.0 f.1)
      (λ x h. absurd h)

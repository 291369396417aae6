-- Members of lists: what holds of each holds of all, and what maps and rows that hold others make of them.
use Rattle.std.proofs.Common.{◌≡◌, zero, suc, ℕ, Bool, true, false, cond, List, [], ◌∷◌, ◌++◌, refl, sym, ap, ◌∙◌, subst, inl, inr, ◌⊎◌, filter, map, arith}
use Rattle.std.specs.Prelude.{All, flat_map}
use Rattle.std.specs.List.{list_all}
use Rattle.std.proofs.lemmas.Bool.{and_parts, and_from}
use Rattle.std.proofs.lemmas.List.Concat.{flat_map-cons}
use Rattle.gtfs_schema.specs.Columns.{Column}
use Rattle.gtfs_rows.specs.Cells.{Cell, are_cells}
use Rattle.gtfs_rows.specs.RowCells.{held_by}

abbrev pub In : {X : Type 0} → X → List X → Type 0
In x [] = ⊥
In x (y ∷ ys) = (y ≡ x) ⊎ In x ys

-- ---- tests and statements

pub list_all-In : {X : Type 0} (p : X → Bool) (xs : List X) → list_all p xs ≡ true → (x : X) → In x xs → p x ≡ true
list_all-In p [] e x i = elim i [ ]
list_all-In p (y ∷ ys) e x (inl h) = ap p (sym h) ∙ (and_parts _ _ e).0
list_all-In p (y ∷ ys) e x (inr h) = list_all-In p ys (and_parts _ _ e).1 x h

pub list_all-from : {X : Type 0} (p : X → Bool) (xs : List X) → ((x : X) → In x xs → p x ≡ true) → list_all p xs ≡ true
list_all-from p [] h = refl
list_all-from p (x ∷ xs) h = and_from _ _ (h x (inl refl)) (list_all-from p xs (λ y i. h y (inr i)))

pub all-from : {X : Type 0} (P : X → Type 0) (xs : List X) → ((x : X) → In x xs → P x) → All P xs
all-from P [] h k d l = absurd (omega arith)
all-from P (x ∷ xs) h zero d l = h x (inl refl)
all-from P (x ∷ xs) h (suc k) d l = all-from P xs (λ y i. h y (inr i)) k d (omega arith)

pub all-In : {X : Type 0} (P : X → Type 0) (xs : List X) → All P xs → (x : X) → In x xs → P x
all-In P [] h x i = elim i [ ]
all-In P (y ∷ ys) h x (inl e) = subst P e (h zero y (omega arith))
all-In P (y ∷ ys) h x (inr i) = all-In P ys (λ k d l. h (suc k) d (omega arith)) x i

-- ---- lists made of lists

pub In-map : {X Y : Type 0} (f : X → Y) (xs : List X) (y : Y) → In y (map f xs) → (x : X) × In x xs × (f x ≡ y)
In-map f [] y i = elim i [ ]
In-map f (x ∷ xs) y (inl e) = (x, inl refl, e)
In-map f (x ∷ xs) y (inr i) = let r = In-map f xs y i in (r.0, inr r.1, r.2)

pub map-In : {X Y : Type 0} (f : X → Y) (xs : List X) (x : X) → In x xs → In (f x) (map f xs)
map-In f [] x i = elim i [ ]
map-In f (y ∷ ys) x (inl e) = inl (ap f e)
map-In f (y ∷ ys) x (inr i) = inr (map-In f ys x i)

pub In-append : {X : Type 0} (xs ys : List X) (z : X) → In z (xs ++ ys) → In z xs ⊎ In z ys
In-append [] ys z i = inr i
In-append (x ∷ xs) ys z (inl e) = inl (inl e)
In-append (x ∷ xs) ys z (inr i) = elim (In-append xs ys z i) as (λ w. In z (x ∷ xs) ⊎ In z ys) [ inl j ↦ inl (inr j) | inr j ↦ inr j ]

pub In-left : {X : Type 0} (xs ys : List X) (z : X) → In z xs → In z (xs ++ ys)
In-left [] ys z i = elim i [ ]
In-left (x ∷ xs) ys z (inl e) = inl e
In-left (x ∷ xs) ys z (inr i) = inr (In-left xs ys z i)

pub In-right : {X : Type 0} (xs ys : List X) (z : X) → In z ys → In z (xs ++ ys)
In-right [] ys z i = i
In-right (x ∷ xs) ys z i = inr (In-right xs ys z i)

pub In-filter : {X : Type 0} (p : X → Bool) (xs : List X) (x : X) → In x (filter p xs) → In x xs
In-filter p [] x i = i
In-filter p (y ∷ ys) x i = by (p y) (In-filter p ys x) i
  where
    by : (t : Bool) → (In x (filter p ys) → In x ys) → In x (cond t (y ∷ filter p ys) (filter p ys)) → In x (y ∷ ys)
    by true later (inl e) = inl e
    by true later (inr i) = inr (later i)
    by false later i = inr (later i)

-- ---- what rows hold

In-flat : {X Y : Type 0} (f : X → List Y) (xs : List X) (y : Y) → In y (flat_map f xs) → (x : X) × In x xs × In y (f x)
In-flat f [] y i = elim i [ ]
In-flat {X = X} {Y = Y} f (x ∷ xs) y i =
    elim (In-append (f x) (flat_map f xs) y (subst (λ l. In y l) (flat_map-cons f x xs) i)) as (λ w. (z : X) × In z (x ∷ xs) × In y (f z)) [
      | inl j ↦ (x, inl refl, j)
      | inr j ↦ let r = In-flat f xs y j in (r.0, inr r.1, r.2)
    ]

flat-In : {X Y : Type 0} (f : X → List Y) (xs : List X) (x : X) (y : Y) → In x xs → In y (f x) → In y (flat_map f xs)
flat-In f [] x y i j = elim i [ ]
flat-In f (z ∷ zs) x y (inl e) j = subst (λ l. In y l) (sym (flat_map-cons f z zs)) (In-left (f z) (flat_map f zs) y (subst (λ v. In y (f v)) (sym e) j))
flat-In f (z ∷ zs) x y (inr i) j = subst (λ l. In y l) (sym (flat_map-cons f z zs)) (In-right (f z) (flat_map f zs) y (flat-In f zs x y i j))

pub In-held : {X Y : Type 0} (own : X → List ℕ) (of : X → List Y) (xs : List X) (p : List ℕ × Y) → In p (held_by own of xs)
    → (x : X) × In x xs × (y : Y) × In y (of x) × ((own x, y) ≡ p)
In-held own of xs p i =
    let r = In-flat (λ x. map (λ y. (own x, y)) (of x)) xs p i in
    let q = In-map (λ y. (own r.0, y)) (of r.0) p r.2 in
    (r.0, r.1, q.0, q.1, q.2)

pub held-In : {X Y : Type 0} (own : X → List ℕ) (of : X → List Y) (xs : List X) (x : X) (y : Y) → In x xs → In y (of x) → In (own x, y) (held_by own of xs)
held-In own of xs x y i j = flat-In (λ x. map (λ y. (own x, y)) (of x)) xs x (own x, y) i (map-In (λ y. (own x, y)) (of x) y j)

-- ---- the cells of rows

pub all-cells : {X : Type 0} (cs : List Column) (cells : X → List Cell) (rows : List X) → ((x : X) → In x rows → are_cells cs (cells x) ≡ true) → list_all (are_cells cs) (map cells rows) ≡ true
all-cells cs cells rows h = list_all-from (are_cells cs) (map cells rows) (λ v i. let x = In-map cells rows v i in ap (are_cells cs) (sym x.2) ∙ h x.0 x.1)

pub cells-at : {X : Type 0} (cs : List Column) (cells : X → List Cell) (rows : List X) → list_all (are_cells cs) (map cells rows) ≡ true
    → (x : X) → In x rows → are_cells cs (cells x) ≡ true
cells-at cs cells rows e x i = list_all-In (are_cells cs) (map cells rows) e (cells x) (map-In cells rows x i)

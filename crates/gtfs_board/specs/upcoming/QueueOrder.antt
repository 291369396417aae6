-- Ascending lists under a test, and what stands in a list.
use Rattle.std.specs.Prelude.{◌≡◌, Bool, true, false, cond, not, ◌&&◌, List, [], ◌∷◌, ◌⊎◌, Option, Some, None}

-- a test that orders
pub record IsStrict {C : Type 0} (lt : C → C → Bool) : Type 0 where
  pub irrefl : (x : C) → lt x x ≡ false
  pub trans : (x y z : C) → lt x y ≡ true → lt y z ≡ true → lt x z ≡ true
  pub exact : (x y : C) → lt x y ≡ false → lt y x ≡ false → x ≡ y

abbrev pub In : {C : Type 0} → C → List C → Type 0
In x [] = ⊥
In x (y ∷ ys) = (x ≡ y) ⊎ In x ys

abbrev pub Each : {C : Type 0} → (C → Type 0) → List C → Type 0
Each P [] = Unit {0}
Each P (x ∷ xs) = P x × Each P xs

-- each member lies below all that follow it
abbrev pub AscendsBy : {C : Type 0} → (C → C → Bool) → List C → Type 0
AscendsBy lt [] = Unit {0}
AscendsBy lt (x ∷ xs) = Each (λ y. lt x y ≡ true) xs × AscendsBy lt xs

-- neither lies below the other
abbrev pub same : {C : Type 0} → (C → C → Bool) → C → C → Bool
same lt x y = not (lt x y) && not (lt y x)

-- the option holds it
abbrev pub holds : {C : Type 0} → (C → C → Bool) → C → Option C → Bool
holds lt x None = false
holds lt x (Some y) = same lt x y

-- what lies above a member passes
abbrev pub IsUpward : {C : Type 0} → (C → C → Bool) → (C → Bool) → Type 0
IsUpward {C} lt p = (x y : C) → lt x y ≡ true → p x ≡ true → p y ≡ true

-- into an ascending list
abbrev pub put_in : {C : Type 0} → (C → C → Bool) → C → List C → List C
put_in lt x [] = x ∷ []
put_in lt x (y ∷ ys) = cond (lt x y) (x ∷ y ∷ ys) (cond (lt y x) (y ∷ put_in lt x ys) (y ∷ ys))

-- the members, ascending, each once
abbrev pub ascending_by : {C : Type 0} → (C → C → Bool) → List C → List C
ascending_by lt [] = []
ascending_by lt (x ∷ xs) = put_in lt x (ascending_by lt xs)

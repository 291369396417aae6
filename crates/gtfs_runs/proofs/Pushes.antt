-- The steps of loops that push, and what a refusal leaves to be shown.
use Rattle.std.proofs.Common.{◌≡◌, ◌<◌, ◌≤◌, ◌+◌, ◌++◌, ◌∙◌, ℕ, List, [], ◌∷◌, length, map, take, get_or, add-one, ap, refl, Result, Ok, Err}
use Rattle.std.specs.Prelude.{OnOk, IfOk}
use Rattle.std.specs.Result.{IsErrAnd}
use Rattle.std.proofs.Math.Seq.{take-suc}
use Rattle.std.proofs.lemmas.List.{append_assoc, map-append, take_all}

pub pushed-more : {X Y : Type 0} (f : X → Y) (xs : List X) (n : ℕ) (x : X) (old new : List Y) (y : Y) → n < length xs → x ≡ get_or xs n x
    → old ≡ map f (take n xs) → new ≡ old ++ y ∷ [] → y ≡ f x → new ≡ map f (take (n + 1) xs)
pushed-more f xs n x old new y within item so_far pushed is =
    rw (add-one, take-suc xs n x within, map-append f (take n xs) (get_or xs n x ∷ []))
    (pushed ∙ (λ i. so_far i ++ (is ∙ ap f item) i ∷ []))

-- the same behind what was there before
pub appended-more : {X Y : Type 0} (f : X → Y) (xs : List X) (n : ℕ) (x : X) (first old new : List Y) (y : Y) → n < length xs → x ≡ get_or xs n x
    → old ≡ first ++ map f (take n xs) → new ≡ old ++ y ∷ [] → y ≡ f x → new ≡ first ++ map f (take (n + 1) xs)
appended-more f xs n x first old new y within item so_far pushed is =
    pushed ∙ ap (λ l. l ++ y ∷ []) so_far ∙ append_assoc first (map f (take n xs)) (y ∷ [])
    ∙ ap (λ l. first ++ l) (pushed-more f xs n x (map f (take n xs)) (map f (take n xs) ++ y ∷ []) y within item refl refl is)

pub appended-all : {X Z : Type 0} (f : X → Z) (xs : List X) (n : ℕ) (first zs : List Z) → length xs ≤ n → zs ≡ first ++ map f (take n xs) → zs ≡ first ++ map f xs
appended-all f xs n first zs past so_far = so_far ∙ ap (λ l. first ++ map f l) (take_all n xs past)

pub mapped-all : {X Z : Type 0} (f : X → Z) (xs : List X) (n : ℕ) (zs : List Z) → length xs ≤ n → zs ≡ map f (take n xs) → zs ≡ map f xs
mapped-all f xs n zs past so_far = so_far ∙ ap (map f) (take_all n xs past)

-- where a call was refused, nothing is promised of what it would have made
pub none-made : {A E : Type 0} (r : Result A E) (P : A → Type 0) (Q : E → Type 0) → IsErrAnd r Q → IfOk r P
none-made (Ok x) P Q refused = absurd refused
none-made (Err e) P Q refused = tt

pub none-done : {A E : Type 0} (r : Result A E) (P : Type 0) (Q : E → Type 0) → IsErrAnd r Q → OnOk r P
none-done (Ok x) P Q refused = absurd refused
none-done (Err e) P Q refused = tt

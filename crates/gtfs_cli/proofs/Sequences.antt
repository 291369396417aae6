-- A list up to one of its items.
use Rattle.std.proofs.Common.{◌≡◌, ◌∙◌, ap, sym, ℕ, ◌+◌, ◌<◌, add-one, List, [], ◌∷◌, ◌++◌, append_assoc, length, take, drop, take-append-drop, get_or}
use Rattle.std.proofs.Math.Seq.{take-suc}

-- the items up to one, that one, and the rest
pub items-split : {X : Type 0} (xs : List X) (i : ℕ) (x : X) → i < length xs → xs ≡ take i xs ++ get_or xs i x ∷ drop (i + 1) xs
items-split xs i x inside =
    sym (take-append-drop (i + 1) xs)
    ∙ ap (λ ys. ys ++ drop (i + 1) xs) (ap (λ n. take n xs) (add-one i) ∙ take-suc xs i x inside)
    ∙ append_assoc (take i xs) (get_or xs i x ∷ []) (drop (i + 1) xs)

-- How long texts are at the most.
use Rattle.std.specs.Prelude.{ℕ, max, List, length}
use Rattle.std.specs.List.{fold}

-- the length of the longest text of some rows, or 0 where there is none
abbrev pub longest : {X : Type 0} → (X → List ℕ) → List X → ℕ
longest text xs = fold (λ most x. max most (length (text x))) 0 xs

-- A list cut at offsets.
use Rattle.std.specs.Prelude.{ℕ, ◌≡◌, ◌<◌, ◌≤◌, ◌+◌, ◌-◌, ◌++◌, List, [], ◌∷◌, take, drop, length, slice_index, slice_index_or}

-- each part goes from its offset to the next one, and the last part to the end
unfoldable pub parts : {X : Type 0} → List ℕ → List X → List (List X)
parts [] xs = []
parts (start ∷ rest) xs = take (slice_index_or rest 0 (length xs) - start) (drop start xs) ∷ parts rest xs

-- lists whose last one has one more item
unfoldable pub add_to_last : {X : Type 0} → List (List X) → X → List (List X)
add_to_last [] x = []
add_to_last (xs ∷ []) x = (xs ++ x ∷ []) ∷ []
add_to_last (xs ∷ ys ∷ rest) x = xs ∷ add_to_last (ys ∷ rest) x

-- where these lists begin if they stand one after the other from an offset on
unfoldable pub starts_of : {X : Type 0} → ℕ → List (List X) → List ℕ
starts_of start [] = []
starts_of start (xs ∷ rest) = start ∷ starts_of (start + length xs) rest

-- where these lists begin if they stand so, and where the last one ends
unfoldable pub marks_of : {X : Type 0} → ℕ → List (List X) → List ℕ
marks_of start [] = start ∷ []
marks_of start (xs ∷ rest) = start ∷ marks_of (start + length xs) rest

-- the parts from each of these marks to the next one
unfoldable pub between : {X : Type 0} → List ℕ → List X → List (List X)
between [] xs = []
between (start ∷ []) xs = []
between (start ∷ end ∷ rest) xs = take (end - start) (drop start xs) ∷ between (end ∷ rest) xs

-- these distances from a base are those of the offsets from a number on
pub record TellsOffsets (base : ℕ) (distances : List ℕ) (offsets : List ℕ) (start : ℕ) : Type 0 where
  pub within : (n : ℕ) → n < length distances → start + n < length offsets
  pub told : (n : ℕ) → n < length distances → base + slice_index distances n ≡ slice_index offsets (start + n)

-- where the first of these fields begin in some bytes, and where the last one of them ends
pub record TellsFields (bytes distances : List ℕ) (fields : List (List ℕ)) : Type 0 where
  pub few : length distances ≤ length fields + 1
  pub rising : (n : ℕ) → n + 1 < length distances → slice_index distances n ≤ slice_index distances (n + 1)
  pub within : (n : ℕ) → n + 1 < length distances → slice_index distances (n + 1) ≤ length bytes
  pub told : (n : ℕ) → n + 1 < length distances
      → take (slice_index distances (n + 1) - slice_index distances n) (drop (slice_index distances n) bytes) ≡ slice_index_or fields n []

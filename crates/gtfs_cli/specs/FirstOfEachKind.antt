-- The first of each kind among some things.
use Rattle.std.specs.Prelude.{ℕ, Bool, if◌then◌else◌, List, [], map, take, count_by, Option, None, Some}
use Rattle.std.specs.List.{enumerate_from, list_any}

-- the line of the thing at a place among these where it is the first of its kind, with how many of that kind there are, and else nothing
abbrev pub first_of : {X : Type 0} → (X → X → Bool) → (X → Option ℕ → List ℕ) → List X → ℕ × X → List ℕ
first_of is_alike line all at = if list_any (is_alike at.1) (take at.0 all) then [] else line at.1 (Some (count_by (is_alike at.1) all))

-- that of each thing
abbrev pub firsts : {X : Type 0} → (X → X → Bool) → (X → Option ℕ → List ℕ) → List X → List (List ℕ)
firsts is_alike line all = map (first_of is_alike line all) (enumerate_from 0 all)

-- the line of a thing whose number is given, and else nothing
abbrev pub if_counted : (Option ℕ → List ℕ) → Option ℕ → List ℕ
if_counted line None = []
if_counted line (Some count) = line (Some count)

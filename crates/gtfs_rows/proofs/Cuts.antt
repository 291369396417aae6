-- A list that is cut at starts grows by one stretch.
use Rattle.std.proofs.Common.{◌≡◌, ℕ, ◌≤◌, ◌++◌, ◌∷◌, [], List, get_or, refl, arith}
use Rattle.csv.specs.Records.{Rising}
use Rattle.gtfs_table.specs.FieldOffsets.{parts}

pub rising_push : (s : ℕ) (starts : List ℕ) (size later : ℕ) → Rising s starts size → size ≤ later → Rising s (starts ++ size ∷ []) later
unfolding Rising
rising_push s [] size later r h = (r, h)
rising_push s (e ∷ es) size later r h = (r.0, rising_push e es size later r.1 h)

-- the first starts where the list does
pub first_push : (starts : List ℕ) (size later : ℕ) → get_or starts 0 size ≡ 0 → get_or (starts ++ size ∷ []) 0 later ≡ 0
first_push [] size later e = e
first_push (s ∷ ss) size later e = e

pub rising_none : Rising 0 [] 0
unfolding Rising
rising_none = omega arith

pub no_parts : {X : Type 0} (xs : List X) → parts [] xs ≡ []
unfolding parts
no_parts xs = refl

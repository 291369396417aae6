-- Blanks, and a text cut of those at its ends.
-- GTFS Schedule Reference, "File Requirements": a field has no leading or trailing spaces.
use Rattle.std.specs.Prelude.{ℕ, ◌==◌, ◌||◌, Bool, nat_lt, if◌then◌else◌, List, [], ◌∷◌, reverse}

-- a character of code 0 to 31, or 127
abbrev pub is_control : ℕ → Bool
is_control b = nat_lt b 32 || (b == 127)

-- a space or a control character
abbrev pub is_blank : ℕ → Bool
is_blank b = (b == 32) || is_control b

unfoldable pub without_first_blanks : List ℕ → List ℕ
without_first_blanks [] = []
without_first_blanks (b ∷ bs) = if is_blank b then without_first_blanks bs else b ∷ bs

-- a text cut of the blanks at both ends
abbrev pub cut : List ℕ → List ℕ
cut text = reverse (without_first_blanks (reverse (without_first_blanks text)))

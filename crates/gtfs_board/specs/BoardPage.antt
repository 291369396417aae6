-- Pages: lines of a board that go out one after another.
use Rattle.std.specs.Prelude.{◌≡◌, ◌<◌, ◌≤◌, ◌⊎◌, ℕ, List, [], ◌∷◌, ◌++◌, length, Option}
use Rattle.std.specs.Io.KnownBytes.{Appends}
use Rattle.gtfs_days.specs.declared.zone.Zone.{Zone}
use Rattle.gtfs_board.specs.BoardLines.{Listed, IsLine}

-- the text is the lines of the departures in the zone, one after another
abbrev pub AreLines : Zone → List Listed → List ℕ → Type 0
AreLines z [] text = text ≡ []
AreLines z (d ∷ ds) text = (line : List ℕ) × (more : List ℕ) × IsLine z d line × AreLines z ds more × (text ≡ line ++ more)

-- the lines of so many departures, the first of the rest, went out; these are left
pub record AreWritten (z : Zone) (rest left : List Listed) (before after : Option (List ℕ)) (lines : ℕ) : Type 0 where
  pub shown : List Listed
  pub text : List ℕ
  pub split : rest ≡ shown ++ left
  pub count : length shown ≡ lines
  pub are_lines : AreLines z shown text
  pub out : Appends before after text

-- a page of at most `limit` lines: it has fewer only where nothing is left
pub record IsPage (z : Zone) (limit : ℕ) (rest left : List Listed) (before after : Option (List ℕ)) (lines : ℕ) : Type 0 where
  pub written : AreWritten z rest left before after lines
  pub within : lines ≤ limit
  pub ends : lines < limit → left ≡ []

-- an output failed after so many lines: of the next one, which is gone from what is left, at most a beginning went out
pub record IsCutShort (z : Zone) (limit : ℕ) (rest left : List Listed) (before after : Option (List ℕ)) (lines : ℕ) : Type 0 where
  pub shown : List Listed
  pub text : List ℕ
  pub next : Listed
  pub line : List ℕ
  pub sent : List ℕ
  pub unsent : List ℕ
  pub split : rest ≡ shown ++ next ∷ left
  pub count : length shown ≡ lines
  pub within : lines < limit
  pub are_lines : AreLines z shown text
  pub is_line : IsLine z next line
  pub cut : line ≡ sent ++ unsent
  pub not_whole : 0 < length unsent
  pub out : Appends before after (text ++ sent)

-- the same list, or without its first
abbrev pub LacksOne : List Listed → List Listed → Type 0
LacksOne all left = (left ≡ all) ⊎ ((d : Listed) × (all ≡ d ∷ left))

-- memory ran out after so many lines: they went out whole, and at most the next departure is gone from what is left
pub record IsStopped (z : Zone) (limit : ℕ) (rest left : List Listed) (before after : Option (List ℕ)) (lines : ℕ) : Type 0 where
  pub others : List Listed
  pub written : AreWritten z rest others before after lines
  pub within : lines < limit
  pub lacks : LacksOne others left

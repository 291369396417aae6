-- An input of lines in memory.
use Rattle.std.specs.Prelude.{ℕ, ◌-◌, List, [], Option, drop, slice_index_or}

-- all lines, and how many of them were heard; how many bytes had gone out each time that a line was asked for; how many had gone out when the
-- output was last sent on; the number of the hearing that fails, from 1; how often one failed
pub record Script : Type 0 where
  pub lines : List (List ℕ)
  pub heard : ℕ
  pub asked : List ℕ
  pub sent : ℕ
  pub failing : Option ℕ
  pub failures : ℕ

-- the lines that will be heard from here on
abbrev pub lines_left : Script → List (List ℕ)
lines_left script = drop script.heard script.lines

-- the line that was heard last
abbrev pub last_heard : Script → List ℕ
last_heard script = slice_index_or script.lines (script.heard - 1) []

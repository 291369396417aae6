-- The lines of an input, as they are heard.
use Rattle.std.specs.Prelude.{ℕ, ◌+◌, List, map, take}
use Rattle.std.specs.Str.Lines.{lines}

-- the most bytes of a line that is answered; its end is not counted
abbrev pub longest_line : ℕ
longest_line = 1_048_576

-- the lines of bytes as they are heard: each ends in LF or CRLF, the last one also where the bytes end. A line that is too long is heard by
-- its beginning, which is too long as well
abbrev pub heard_lines : List ℕ → List (List ℕ)
heard_lines bytes = map (λ l. take (longest_line + 1) l) (lines bytes)

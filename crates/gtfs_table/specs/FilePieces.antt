-- A text that is read in pieces.
use Rattle.std.specs.Prelude.{ℕ, Bool, List, [], None, unwrap_or}
use Rattle.std.specs.List.{last_or}
use Rattle.csv.specs.Machine.{is_byte, line_feed}

-- whether a field ends with a line feed
abbrev pub ends_with_feed : List ℕ → Bool
ends_with_feed field = is_byte (last_or None field) line_feed

-- whether the last field of a record does
abbrev pub feeds_last : List (List ℕ) → Bool
feeds_last fields = ends_with_feed (unwrap_or (last_or None fields) [])

-- whether the last of these records has such a last field; so looks a record that a text cuts within quotes, right behind a line feed
abbrev pub ends_within : List (List (List ℕ)) → Bool
ends_within rows = feeds_last (unwrap_or (last_or None rows) [])

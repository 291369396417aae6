-- Spans of instants.
use Rattle.std.specs.Prelude.{◌^◌, ◌&&◌, Bool, unsigned_abs, nat_lt, ℤ, int_le}
use Rattle.gtfs_board.specs.declared.span.Span.{Span}

-- at most twelve digits, as in a key
abbrev pub is_writable : ℤ → Bool
is_writable x = nat_lt (unsigned_abs x) (10 ^ 12)

-- a span that does not end before it begins, of instants that a key can have
abbrev pub is_span : Span → Bool
is_span s = int_le s.from s.until && is_writable s.from && is_writable s.until

-- The bytes of a text, wherever they lie.
use Rattle.std.specs.Prelude.{ℕ, List, string_bytes}
use Rattle.gtfs_field.specs.declared.text.Bytes.{Bytes}
use Rattle.gtfs_field.specs.declared.text.Bytes.TheVariants.{Short, Long}

abbrev pub bytes_of : Bytes → List ℕ
bytes_of (Short s) = s.bytes
bytes_of (Long s) = string_bytes s

use Rattle.std.proofs.Common.{◌≡◌, ◌++◌, ◌+◌, ◌≤◌, length, string_bytes, string_len}
use Rattle.std.specs.String.{string_capacity}
use Rattle.gtfs_schema.specs.FieldValues.{plain}
use Rattle.gtfs_schema.proofs.plain.push_plain.Given as goal

abbrev pub invariant-loop-character : goal.invariant-loop-character
invariant-loop-character l = record {
  grown : string_bytes l.shown ++ plain l.character-iterator.rest.now ≡ string_bytes l.initial.shown ++ plain l.text;
  len : string_len l.shown + length l.character-iterator.rest.now ≡ string_len l.initial.shown + length l.text;
  capacity : string_capacity l.initial.shown ≤ string_capacity l.shown;
}

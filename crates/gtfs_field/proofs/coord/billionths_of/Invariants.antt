use Rattle.std.proofs.Common.{◌≡◌, ◌*◌, ◌/◌, ◌^◌, ◌+◌, ◌≤◌, true, take}
use Rattle.std.specs.Str.{all_ascii_digits}
use Rattle.gtfs_field.specs.Digits.{number}
use Rattle.gtfs_field.proofs.coord.billionths_of.Given as goal

-- the bytes so far are digits, and the value is theirs; the next digit weighs a tenth of the last one
abbrev pub invariant-loop-byte : goal.invariant-loop-byte
invariant-loop-byte l = record {
  digits : all_ascii_digits (take l.byte-index l.fraction) ≡ true;
  weight : l.weight ≡ 10 ^ 9 / 10 ^ l.byte-index;
  value : l.billionths ≡ number (take l.byte-index l.fraction) * 10 ^ 9 / 10 ^ l.byte-index;
  bound : l.billionths + l.weight ≤ 10 ^ 9;
}

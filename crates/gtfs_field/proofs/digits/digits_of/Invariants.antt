use Rattle.std.proofs.Common.{◌≡◌, ◌-◌, ◌^◌, min, true, take}
use Rattle.std.specs.Str.{all_ascii_digits}
use Rattle.gtfs_field.specs.Digits.{number}
use Rattle.gtfs_field.proofs.digits.digits_of.Given as goal

-- the bytes so far are digits, and the number is what they write
abbrev pub invariant-loop-byte : goal.invariant-loop-byte
invariant-loop-byte l = record {
  digits : all_ascii_digits (take l.byte-index l.text) ≡ true;
  value : l.number ≡ min (number (take l.byte-index l.text)) (2 ^ 64 - 1);
}

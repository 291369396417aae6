use Rattle.std.proofs.Common.{◌≡◌}
use Rattle.std.specs.Str.{IsUtf8, chars}
use Rattle.gtfs_advice.specs.TextFaults.{is_garbled}
use Rattle.gtfs_advice.proofs.Letters.{has_garbled_behind}
use Rattle.gtfs_advice.proofs.text_faults.is_garbled.Given as goal

-- what is found in the letters that are left is found in the text
abbrev pub invariant-loop-letter : goal.invariant-loop-letter
invariant-loop-letter l = record {
  text : IsUtf8 l.letter-iterator.rest.now;
  same : has_garbled_behind l.is_behind_lead (chars l.letter-iterator.rest.now) ≡ is_garbled l.text;
}

use Rattle.std.proofs.Common.{◌∙◌, ap, sym, ◌++◌, append_assoc, arith, string_bytes}
use Rattle.std.specs.Prelude.{encode_utf8}
use Rattle.gtfs_schema.specs.FieldValues.{plain}
use Rattle.gtfs_schema.proofs.PlainTexts.{length-past, plain-past}
use Rattle.gtfs_schema.proofs.plain.push_plain.Goals as goal

pub loop-character-preserved : goal.loop-character-preserved
loop-character-preserved c =
    let name = c.loop-character.character-iterator.rest.now in
    let later = c.next.new.self.rest.now in
    let before = string_bytes c.loop-character.shown in
    let d = c.plain_character.result in
    let bytes = rw c.unwrap.ensures at c.push.ensures.bytes in
    let len = rw c.unwrap.ensures at c.push.ensures.len in
    let rest = plain-past name later c.in-Some.character d c.in-Some.ensures.steps.0 c.plain_character.ensures in
    let rest_len = length-past name later c.in-Some.character d c.in-Some.ensures.steps.0 c.plain_character.ensures in
    record {
      grown = ap (λ t. t ++ plain later) bytes ∙ append_assoc before (encode_utf8 d) (plain later) ∙ ap (λ t. before ++ t) (sym rest) ∙ c.loop-character.invariant.grown;
      len = omega (arith, len, rest_len, c.loop-character.invariant.len);
      capacity = omega (arith, c.push.ensures.capacity, c.loop-character.invariant.capacity);
    }

pub unwrap-requires : goal.unwrap-requires
unwrap-requires c =
    let name = c.loop-character.character-iterator.rest.now in
    let later = c.next.new.self.rest.now in
    let rest_len = length-past name later c.in-Some.character c.plain_character.result c.in-Some.ensures.steps.0 c.plain_character.ensures in
    c.push.ensures.succeeds (omega (arith, rest_len, c.loop-character.invariant.len, c.loop-character.invariant.capacity, c.requires))

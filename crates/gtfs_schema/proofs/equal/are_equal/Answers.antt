use Rattle.std.proofs.Common.{◌∙◌, ap, arith, sym}
use Rattle.std.specs.Int.{from_be_bytes, to_be_bytes, w32, w64}
use Rattle.std.proofs.lemmas.Nat.{from_be_bytes-to_be_bytes_4, from_be_bytes-to_be_bytes_8}
use Rattle.gtfs_schema.proofs.EqualFacts.{equal_by_ends}
use Rattle.gtfs_schema.proofs.equal.are_equal.Goals as goal

pub returns-then-first_four : goal.returns-then-first_four
returns-then-first_four c =
    equal_by_ends 4 (to_be_bytes w32) c.args.a.now c.args.b.now c.first_four.result c.first_four-in-4-to-7.result c.last_four.result c.last_four-then-first_four.result
    (omega arith) c.if-a-b.false c.first_four.ensures c.first_four-in-4-to-7.ensures c.if-first_four.true c.last_four.ensures c.last_four-then-first_four.ensures
    (λ same. sym (from_be_bytes-to_be_bytes_4 _ c.last_four.type_inv) ∙ ap (from_be_bytes w32) same ∙ from_be_bytes-to_be_bytes_4 _ c.last_four-then-first_four.type_inv)

pub returns-then-first_eight : goal.returns-then-first_eight
returns-then-first_eight c =
    equal_by_ends 8 (to_be_bytes w64) c.args.a.now c.args.b.now c.first_eight.result c.first_eight-in-8-to-16.result c.last_eight.result c.last_eight-then-first_eight.result
    (omega arith) c.if-a-b.false c.first_eight.ensures c.first_eight-in-8-to-16.ensures c.if-first_eight.true c.last_eight.ensures c.last_eight-then-first_eight.ensures
    (λ same. sym (from_be_bytes-to_be_bytes_8 _ c.last_eight.type_inv) ∙ ap (from_be_bytes w64) same ∙ from_be_bytes-to_be_bytes_8 _ c.last_eight-then-first_eight.type_inv)

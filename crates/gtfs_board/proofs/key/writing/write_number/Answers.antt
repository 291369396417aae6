use Rattle.std.proofs.Common.{ℕ, ◌≡◌, ◌+◌, ◌-◌, ◌∷◌, ◌≤◌, ◌<◌, ◌^◌, ◌∙◌, ap, drop, length, decimal, arith, lit<}
use Rattle.std.proofs.lemmas.Fmt.{length-decimal-le}
use Rattle.std.proofs.lemmas.List.{drop-set}
use Rattle.gtfs_board.proofs.key.writing.write_number.Goals as goal

-- a number of 32 bits has ten digits at most
digits : (n : ℕ) → n < 2 ^ 32 → length (decimal n) ≤ 10
digits n fits = length-decimal-le 10 n (lit< tt) (omega arith) (omega arith)

pub write_digits-start-requires : goal.write_digits-start-requires
write_digits-start-requires c = (omega (arith, digits c.from.result (omega (arith, c.from.ensures, c.ranges.number))), c.requires.1)

pub overflow_sub-start : goal.overflow_sub-start
overflow_sub-start c = omega (arith, digits c.from.result (omega (arith, c.from.ensures, c.ranges.number)), c.write_digits-start.ensures.start)

pub returns-clause-start : goal.returns-clause-start
returns-clause-start c = omega (arith, digits c.from.result (omega (arith, c.from.ensures, c.ranges.number)), c.write_digits-start.ensures.start)

pub returns-clause-written : goal.returns-clause-written
returns-clause-written c =
    let few = digits c.from.result (omega (arith, c.from.ensures, c.ranges.number)) in
    let start = c.write_digits-start.result in
    let next : start - 1 + 1 ≡ start = omega (arith, few, c.write_digits-start.ensures.start) in
    let written = rw c.from.ensures at c.write_digits-start.ensures.written in
    drop-set c.write_digits-start.new.buf (start - 1) 47 (omega (arith, few, c.write_digits-start.ensures.start))
    ∙ ap (λ k. 47 ∷ drop k c.write_digits-start.new.buf) next ∙ ap (λ k. 47 ∷ k) written

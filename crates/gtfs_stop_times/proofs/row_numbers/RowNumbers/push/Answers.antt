use Rattle.std.proofs.Common.{◌≡◌, ◌+◌, ◌++◌, ◌∷◌, ◌∙◌, [], ap, arith, sym}
use Rattle.std.specs.Vec.{vec_len}
use Rattle.std.proofs.lemmas.Bool.{eqb-true}
use Rattle.std.proofs.lemmas.List.{nil_from_length}
use Rattle.gtfs_stop_times.proofs.RowNumberFacts.{one-follows}
use Rattle.gtfs_stop_times.proofs.row_numbers.RowNumbers.push.Goals as goal

pub returns-then-self-lt4294967295-clause-added : goal.returns-then-self-lt4294967295-clause-added
returns-then-self-lt4294967295-clause-added c =
    let n = c.self.inside in
    let zero = eqb-true (vec_len n.others) 0 (sym c.is_empty-2.ensures ∙ c.if-is_empty-2.true) in
    let none = nil_from_length n.others.items (omega (arith, zero, n.others.ok.0)) in
    let next : c.args.number ≡ n.first + n.count = omega (arith, c.if-from-next.true, c.from-then-is_empty-2.ensures, c.from.ensures, c.from-2.ensures) in
    one-follows n.first n.count n.others.items c.args.number none next ∙ ap (λ l. l ++ c.args.number ∷ []) c.self.view_is

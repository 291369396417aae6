use Rattle.std.proofs.Common.{◌≡◌, ◌<◌, ◌∙◌, List, ℕ, None, ap, arith, get_or, length, set, subst, sym}
use Rattle.std.specs.Prelude.{IfSome}
use Rattle.gtfs_merge.specs.Twins.{of_kind}
use Rattle.gtfs_merge.specs.NewNumbers.{number_or}
use Rattle.gtfs_merge.proofs.NumberTables.{joined-more, none-joined}
use Rattle.gtfs_merge.proofs.numbering.new_numbers.Numbers.set_twins.Goals as goal

pub loop-number-init : goal.loop-number-init
loop-number-init c =
    let stored : c.self.inside.b.len ≡ length c.self.inside.b.items = c.self.inside.b.ok.0 in
    let seen : length c.self.inside.b.items ≡ length c.args.self.now.b = ap (λ n. length n.b) c.self.view_is in
    none-joined (of_kind c.args.twins.now c.args.kind) c.args.self.now c.len-number-end.result (c.len-number-end.ensures ∙ stored ∙ seen)

pub new_number-renumbered-requires-clause-first : goal.new_number-renumbered-requires-clause-first
new_number-renumbered-requires-clause-first c =
    let joined = of_kind c.args.twins.now c.args.kind in
    let n = c.loop-number.number in
    let inside : n < length joined = omega (arith, c.loop-number-test.true, c.loop-number.invariant.whole, c.requires.count) in
    let old = c.requires.within n None inside in
    subst (λ o. IfSome o (λ m. m < length c.loop-number.self.a)) (sym c.of.ensures)
    (subst (λ (xs : List ℕ). IfSome (get_or joined n None) (λ m. m < length xs)) (sym c.loop-number.invariant.kept) old)

pub new_number-renumbered-requires-clause-within : goal.new_number-renumbered-requires-clause-within
new_number-renumbered-requires-clause-within c = omega (arith, c.loop-number-test.true, c.loop-number.invariant.whole, c.loop-number.invariant.long)

pub index_mut-requires : goal.index_mut-requires
index_mut-requires c = omega (arith, c.loop-number-test.true, c.loop-number.invariant.whole, c.loop-number.invariant.long, ap (λ n. length n.b) c.self-in-loop-number.view_is)

pub loop-number-preserved : goal.loop-number-preserved
loop-number-preserved c =
    let joined = of_kind c.args.twins.now c.args.kind in
    let new = c.loop-number.self in
    let n = c.loop-number.number in
    joined-more joined c.args.self.now new _ n c.len-number-end.result c.new_number-renumbered.result c.loop-number.invariant c.loop-number-test.true
    (ap (λ v. v.a) c.self-in-loop-number.view_is) (ap (λ v. set v.b n c.new_number-renumbered.result) c.self-in-loop-number.view_is)
    (c.new_number-renumbered.ensures ∙ ap (λ o. number_or new.a o (get_or new.b n 0)) c.of.ensures)

pub returns-clause-a : goal.returns-clause-a
returns-clause-a c = c.loop-number.invariant.kept

pub returns-clause-count : goal.returns-clause-count
returns-clause-count c = c.loop-number.invariant.long

pub returns-clause-numbers : goal.returns-clause-numbers
returns-clause-numbers c = λ n within. c.loop-number.invariant.done n (omega (arith, within, c.loop-number-test.false, c.loop-number.invariant.whole)) within

use Rattle.std.proofs.Common.{◌≡◌, ◌<◌, ◌+◌, ◌-◌, ◌∙◌, ap, arith, drop, get_or, length, sym, take}
use Rattle.std.specs.List.{range_with_len}
use Rattle.std.proofs.lemmas.List.{get_or-drop, length-drop, length-take-le}
use Rattle.std.proofs.lemmas.List.Elements.{All-drop, All-take}
use Rattle.std.proofs.lemmas.Option.{get_or_from_slice_get}
use Rattle.gtfs_stop_times.proofs.ByTripFacts.{ends-within, follows}
use Rattle.gtfs_stop_times.proofs.ranges.range.Goals as goal

pub loop-at-preserved : goal.loop-at-preserved
loop-at-preserved c =
    let order = c.args.order.now in
    let start = c.args.start in
    let first = c.get-first.result in
    let l = c.loop-at in
    let k = l.at - start in
    let left = drop start order in
    let next : l.at + 1 - start ≡ k + 1 = omega (arith, l.invariant.low) in
    let sum : start + k ≡ l.at = omega (arith, l.invariant.low) in
    let within : k < length left = omega (arith, c.loop-at-test.true, c.requires.1, l.invariant.low, length-drop start order) in
    let here : get_or left k 0 ≡ l.next = get_or-drop start order k 0 ∙ ap (λ m. get_or order m 0) sum
    ∙ get_or_from_slice_get order l.at c.get.result 0 c.get.ensures ∙ sym c.from.ensures ∙ c.if-from-next.false in
    record {
      low = omega (arith, l.invariant.low);
      numbers = ap (range_with_len first) next ∙ follows first left k l.next within here l.invariant.next l.invariant.numbers ∙ ap (λ m. take m left) (sym next);
      next = omega (arith, l.invariant.next, l.invariant.low);
    }

pub returns-clause-numbers : goal.returns-clause-numbers
returns-clause-numbers c =
    let l = c.loop-at in
    let high = l.auto.at-end c.requires.0 in
    let size : l.next - c.get-first.result ≡ l.at - c.args.start = omega (arith, l.invariant.next) in
    let all : l.at - c.args.start ≡ c.args.end - c.args.start = omega (arith, high, c.loop-at-test.false) in
    ap (range_with_len c.get-first.result) size ∙ l.invariant.numbers ∙ ap (λ m. take m (drop c.args.start c.args.order.now)) all

pub returns-clause-within : goal.returns-clause-within
returns-clause-within c = λ rows below.
    let order = c.args.order.now in
    let start = c.args.start in
    let first = c.get-first.result in
    let l = c.loop-at in
    let high = l.auto.at-end c.requires.0 in
    let k = l.at - start in
    let left = drop start order in
    let size : length (take k left) ≡ k = length-take-le k left (omega (arith, high, c.requires.1, length-drop start order)) in
    let are : range_with_len first (length (take k left)) ≡ take k left = ap (range_with_len first) size ∙ l.invariant.numbers in
    let some : 0 < length (take k left) = omega (arith, size, high, c.loop-at-test.false, c.requires.0, c.if-start-end.false) in
    let ends = ends-within first (take k left) rows are some (All-take (λ n. n < rows) k left (All-drop (λ n. n < rows) start order below)) in
    (omega (arith, l.invariant.next), omega (arith, ends, size, l.invariant.next))

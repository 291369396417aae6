use Rattle.std.proofs.Common.{◌≡◌, [], ◌∙◌, sym, subst, true, false, arith, heap_items}
use Rattle.std.proofs.lemmas.Bool.{ltb-true}
use Rattle.gtfs_board.specs.upcoming.Candidates.{candidate_lt}
use Rattle.gtfs_board.proofs.Orders.{each_from_recursion}
use Rattle.gtfs_board.proofs.Gathers.{nothing_there}
use Rattle.gtfs_board.proofs.Queues.{first-got, heap_headed, list_headed, no_later, same_got}
use Rattle.gtfs_board.proofs.upcoming.queue.is_top_first.Goals as goal

pub returns-in-None-default-clause-last : goal.returns-in-None-default-clause-last
returns-in-None-default-clause-last c = λ _.
    let items = heap_items c.args.heap.now in
    let none : items ≡ [] = nothing_there items (omega (arith, c.in-None-default.ensures.item.3)) in
    list_headed c.args.sorted.now items c.requires.sorted (λ d got. rw none tt) (λ _. none)

pub returns-in-Some-None-clause-top : goal.returns-in-Some-None-clause-top
returns-in-Some-None-clause-top c = λ _.
    let items = heap_items c.args.heap.now in
    let top = c.in-Some-None.field-0-0.now in
    let got = first-got items top (ltb-true 0 _ (sym c.in-Some-None.ensures.item.0)) c.in-Some-None.ensures.lookup in
    let least = each_from_recursion (λ y. candidate_lt y top ≡ false) items (c.in-Some-None.ensures.greatest c.requires.heap) in
    heap_headed c.args.sorted.now items top c.requires.sorted got least (λ d there. let none = c.in-Some-None.ensures'.value in absurd (cc))

pub returns-in-Some-Some-clause-top : goal.returns-in-Some-Some-clause-top
returns-in-Some-Some-clause-top c = λ before.
    let items = heap_items c.args.heap.now in
    let top = c.in-Some-Some.top.now in
    let got = first-got items top (ltb-true 0 _ (sym c.in-Some-Some.ensures.item.0)) c.in-Some-Some.ensures.lookup in
    let least = each_from_recursion (λ y. candidate_lt y top ≡ false) items (c.in-Some-Some.ensures.greatest c.requires.heap) in
    heap_headed c.args.sorted.now items top c.requires.sorted got least (λ d there.
    let last = same_got _ c.in-Some-Some.last.now d c.in-Some-Some.ensures'.value there in
    subst (λ z. candidate_lt top z ≡ true) (sym last) (sym c.comes_before.ensures ∙ before))

pub returns-in-Some-Some-clause-last : goal.returns-in-Some-Some-clause-last
returns-in-Some-Some-clause-last c = λ later.
    let items = heap_items c.args.heap.now in
    let top = c.in-Some-Some.top.now in
    let least = each_from_recursion (λ y. candidate_lt y top ≡ false) items (c.in-Some-Some.ensures.greatest c.requires.heap) in
    list_headed c.args.sorted.now items c.requires.sorted
    (λ d there.
    let last = same_got _ c.in-Some-Some.last.now d c.in-Some-Some.ensures'.value there in
    no_later d top items (subst (λ z. candidate_lt top z ≡ false) (sym last) (sym c.comes_before.ensures ∙ later)) least)
    (λ none. let some = rw none at c.in-Some-Some.ensures'.value in absurd (cc))

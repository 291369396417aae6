use Rattle.std.proofs.Common.{rules, of_calls, ◌≡◌, ◌∙◌, true, false, nat_lt, sym, ap, arith}
use Rattle.std.specs.List.Sorted.{IsPartitionPoint}
use Rattle.std.proofs.lemmas.List.Sorted.{IsPartitionPoint-from_clause}
use Rattle.gtfs_board.proofs.LastPeriods.{begun_first, has_begun, is_inexact, last_begun, none_begun}
use Rattle.gtfs_board.proofs.showing.has_inexact.Goals as goal

pub returns-then-begun-gt0 : goal.returns-then-begun-gt0
returns-then-begun-gt0 c =
    let fs = c.args.periods.now in
    let run = c.args.run in
    let n = c.partition_point-begun.result in
    let parted : IsPartitionPoint (λ f. has_begun run f ≡ true) (λ f. has_begun run f ≡ false) fs n =
    IsPartitionPoint-from_clause (has_begun run) fs n c.partition_point-begun.ensures.partitioned (begun_first fs c.requires.apart run) (λ a r f k. search (rules, of_calls)) in
    let last = c.index-periods-begun in
    c.is_inexact.ensures ∙ ap (is_inexact run) last.is
    ∙ sym (last_begun fs c.requires.apart run n parted last.result c.if-begun-gt0.true c.partition_point-begun.ensures.bound)

pub returns-else-begun-gt0 : goal.returns-else-begun-gt0
returns-else-begun-gt0 c =
    let fs = c.args.periods.now in
    let run = c.args.run in
    let n = c.partition_point-begun.result in
    let parted : IsPartitionPoint (λ f. has_begun run f ≡ true) (λ f. has_begun run f ≡ false) fs n =
    IsPartitionPoint-from_clause (has_begun run) fs n c.partition_point-begun.ensures.partitioned (begun_first fs c.requires.apart run) (λ a r f k. search (rules, of_calls)) in
    let none : n ≡ 0 = omega (arith, c.if-begun-gt0.false) in
    ap (nat_lt 0) none ∙ sym (none_begun fs c.requires.apart run n parted none)

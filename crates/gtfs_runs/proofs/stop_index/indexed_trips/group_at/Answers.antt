use Rattle.std.proofs.Common.{◌≡◌, ◌<◌, ◌∙◌, ℕ, get_or, false, true, sym, ap, arith}
use Rattle.std.specs.declared.cmp.Ordering.TheVariants.{Less}
use Rattle.std.specs.Ordering.{is_lt}
use Rattle.std.proofs.lemmas.Result.{IfOk-weaker}
use Rattle.gtfs_runs.specs.steps.TripGroups.{GroupedTripValue, below, group_cmp, group_of}
use Rattle.gtfs_runs.proofs.GroupFacts.{first_of_group, higher_than, order_read, same_as_before}
use Rattle.gtfs_runs.proofs.stop_index.indexed_trips.group_at.Goals.{else-rank-gt0-via-then-rank-gt0+else-not-is_lt, else-rank-gt0-via-else-rank-gt0}
use Rattle.gtfs_runs.proofs.stop_index.indexed_trips.group_at.Goals as goal

pub returns-then-not-is_lt : goal.returns-then-not-is_lt
returns-then-not-is_lt c = λ d.
    let xs = c.args.sorted.now in
    let n = c.args.rank in
    let some = c.if-rank-gt0.true in
    let low = order_read xs n c.index-sorted-rank.result c.index-sorted-rank-then-rank-gt0.result some c.requires.within c.index-sorted-rank.is c.index-sorted-rank-then-rank-gt0.is false
    (ap is_lt (sym c.group_order.ensures) ∙ sym c.if-not-is_lt.ensures) in
    c.requires.before d some ∙ ap (below xs) (same_as_before xs n c.requires.in_order some c.requires.within low d)

pub returns : goal.returns
returns c =
    let xs = c.args.sorted.now in
    let n = c.args.rank in
    let lower : (k : ℕ) (d : GroupedTripValue) → k < n → group_cmp (group_of (get_or xs k d)) (group_of (get_or xs n d)) ≡ Less =
    elim c.else-rank-gt0.branch [
      | else-rank-gt0-via-then-rank-gt0+else-not-is_lt w ↦
          higher_than xs n c.requires.in_order c.requires.within
          (order_read xs n w.index-sorted-rank.result w.index-sorted-rank-then-rank-gt0.result w.if-rank-gt0.true c.requires.within w.index-sorted-rank.is w.index-sorted-rank-then-rank-gt0.is true
          (ap is_lt (sym w.group_order.ensures) ∙ sym w.is_lt.ensures ∙ w.if-not-is_lt.false))
      | else-rank-gt0-via-else-rank-gt0 w ↦ λ k d before. let none = w.if-rank-gt0.false in absurd (omega (arith, none, before))
    ] in
    IfOk-weaker c.small_number.result _ _ (λ number is d. is ∙ first_of_group xs n c.requires.in_order c.requires.within lower d) c.small_number.ensures

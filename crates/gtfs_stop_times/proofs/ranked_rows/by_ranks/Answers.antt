use Rattle.std.proofs.Common.{◌∙◌, map, ap, rules, subst, sym}
use Rattle.std.specs.List.Sorted.{IsSorted}
use Rattle.std.specs.Ordering.{is_lt}
use Rattle.std.specs.Prelude.{IsPermutation}
use Rattle.std.proofs.lemmas.List.Sorted.{All-permutation, IsPermutation-map, answers_always, ranks_by}
use Rattle.gtfs_stop_times.specs.KeptLists.{stop_times_at}
use Rattle.gtfs_stop_times.specs.RankedRows.{rank_cmp, IsRanked}
use Rattle.gtfs_stop_times.specs.StopTimeOrder.{kept_cmp}
use Rattle.gtfs_stop_times.proofs.RankFacts.{rank_total, sorted_rows}
use Rattle.gtfs_stop_times.proofs.ranked_rows.by_ranks.Goals as goal

pub returns-clause-moved : goal.returns-clause-moved
returns-clause-moved c =
    let old = c.in_ok-ranked_rows.ranked_rows.items in
    let new = c.sort_unstable_by.new.self.items in
    subst (IsPermutation c.args.order.now) (sym (c.of.ensures ∙ c.in_ok-numbers.ensures ∙ ap (map (λ p. p.row)) c.deref.ensures.value))
    (subst (λ ns. IsPermutation ns (map (λ p. p.row) new)) c.in_ok-ranked_rows.ensures.same (IsPermutation-map (λ p. p.row) old new c.sort_unstable_by.ensures.permutation))

pub returns-clause-sorted : goal.returns-clause-sorted
returns-clause-sorted c =
    let rows = c.args.ranks.now.rows.now in
    let notes = c.args.ranks.now.notes.now in
    let old = c.in_ok-ranked_rows.ranked_rows.items in
    let new = c.sort_unstable_by.new.self.items in
    let sorted : IsSorted rank_cmp new =
    c.sort_unstable_by.ensures.sorted (λ x y. is_lt (rank_cmp x y)) (ranks_by rank_total (λ x. x)) (answers_always _ _ _ (λ f a r g called. search rules)) in
    let each = All-permutation (IsRanked rows notes) old new c.sort_unstable_by.ensures.permutation c.in_ok-ranked_rows.ensures.each in
    subst (λ ms. IsSorted kept_cmp (stop_times_at rows notes ms)) (sym (c.of.ensures ∙ c.in_ok-numbers.ensures ∙ ap (map (λ p. p.row)) c.deref.ensures.value))
    (sorted_rows rows notes new each sorted)

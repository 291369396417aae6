use Rattle.std.proofs.Common.{◌≤◌, ◌++◌, ◌∙◌, ap, length, subst, sym}
use Rattle.std.specs.List.{All, flat_map}
use Rattle.std.specs.List.Sorted.{IsPermutation, IsSorted}
use Rattle.std.proofs.lemmas.List.Sorted.{All-permutation, IsPermutation-refl}
use Rattle.gtfs_stop_times.specs.KeptLists.{stop_times_at}
use Rattle.gtfs_stop_times.specs.KeptStretches.{ascend_from, numbers_of, IsStretch}
use Rattle.gtfs_stop_times.specs.StopTimeOrder.{kept_cmp}
use Rattle.gtfs_stop_times.specs.declared.together.Stretch.{Stretch}
use Rattle.gtfs_stop_times.proofs.JoinedLists.{IsPermutation-flat_map}
use Rattle.gtfs_stop_times.proofs.StretchFacts.{stretches_sorted}
use Rattle.gtfs_stop_times.proofs.together.by_trips.Goals as goal

pub push_all-requires : goal.push_all-requires
push_all-requires c =
    let P = λ (s : Stretch). (s.start ≤ s.end) × (s.end ≤ length c.args.order) in
    subst (All P) (sym c.deref-3.ensures.value)
    (All-permutation P c.in_ok-stretches.stretches.items c.sort_unstable_by_key.new.self.items c.sort_unstable_by_key.ensures.permutation c.in_ok-stretches.ensures.within)

pub returns-then-ascend : goal.returns-then-ascend
returns-then-ascend c =
    let rows = c.args.ranks.now.rows.now in
    let notes = c.args.ranks.now.notes.now in
    let all = c.in_ok-stretches.stretches.items in
    record {
      moved = IsPermutation-refl c.args.order;
      sorted = λ up. subst (λ ns. IsSorted kept_cmp (stop_times_at rows notes ns)) c.in_ok-stretches.ensures.all
          (stretches_sorted rows notes c.args.order 0 all (ap (ascend_from 0) (sym c.deref.ensures.value) ∙ sym c.ascend.ensures ∙ c.if-ascend.true) (c.in_ok-stretches.ensures.each up));
    }

pub returns : goal.returns
returns c =
    let rows = c.args.ranks.now.rows.now in
    let notes = c.args.ranks.now.notes.now in
    let order = c.args.order in
    let old = c.in_ok-stretches.stretches.items in
    let new = c.sort_unstable_by_key.new.self.items in
    let moved = c.sort_unstable_by_key.ensures.permutation in
    let is = c.of.ensures ∙ c.in_ok-push_all.ensures ∙ (λ i. c.in_ok-rows.ensures.items i ++ flat_map (numbers_of order) c.deref-3.result.now) ∙ ap (flat_map (numbers_of order)) c.deref-3.ensures.value in
    record {
      moved = subst (IsPermutation order) (sym is)
          (subst (λ ns. IsPermutation ns (flat_map (numbers_of order) new)) c.in_ok-stretches.ensures.all (IsPermutation-flat_map (numbers_of order) old new moved));
      sorted = λ up. subst (λ ns. IsSorted kept_cmp (stop_times_at rows notes ns)) (sym is)
          (stretches_sorted rows notes order 0 new (ap (ascend_from 0) (sym c.deref-2.ensures.value) ∙ sym c.ascend-2.ensures ∙ c.if-not-ascend.false)
          (All-permutation (IsStretch rows notes order) old new moved (c.in_ok-stretches.ensures.each up)));
    }

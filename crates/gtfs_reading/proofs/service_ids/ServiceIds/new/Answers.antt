use Rattle.std.proofs.Common.{◌≡◌, ◌∙◌, ap, sym, subst}
use Rattle.std.specs.List.{dedup}
use Rattle.std.specs.List.Sorted.{IsSorted}
use Rattle.std.proofs.lemmas.List.Filters.{dedup_is}
use Rattle.gtfs_reading.specs.ServiceIds.{HasAll, service_texts}
use Rattle.gtfs_reading.proofs.ServiceFacts.{all_kept, ids_kept, kept_ascend, text_equal, text_order, texts}
use Rattle.gtfs_reading.proofs.service_ids.ServiceIds.new.Goals as goal

pub invariant_of-result : goal.invariant_of-result
invariant_of-result c =
    let sorted : IsSorted text_order c.sort_unstable.new.self.items = c.sort_unstable.ensures.sorted in
    let kept : c.dedup.new.self.items ≡ dedup text_equal c.sort_unstable.new.self.items = dedup_is text_equal _ _ c.dedup.ensures.filtered in
    rw kept (kept_ascend c.sort_unstable.new.self.items sorted)

pub returns-clause-ids : goal.returns-clause-ids
returns-clause-ids c =
    let sorted : IsSorted text_order c.sort_unstable.new.self.items = c.sort_unstable.ensures.sorted in
    let kept : c.dedup.new.self.items ≡ dedup text_equal c.sort_unstable.new.self.items = dedup_is text_equal _ _ c.dedup.ensures.filtered in
    ap texts kept ∙ ids_kept c.args.tables.now c.requires _ _ c.in_ok-ids.ensures c.sort_unstable.ensures.permutation sorted

pub returns-clause-named : goal.returns-clause-named
returns-clause-named c =
    let kept : c.dedup.new.self.items ≡ dedup text_equal c.sort_unstable.new.self.items = dedup_is text_equal _ _ c.dedup.ensures.filtered in
    subst (λ ys. HasAll (service_texts c.args.tables.now) (texts ys)) (sym kept)
    (all_kept c.args.tables.now _ _ c.in_ok-ids.ensures c.sort_unstable.ensures.permutation)

use Rattle.std.proofs.Common.{rules}
use Rattle.std.specs.Cmp.Lexicographic.{nat_list_cmp_total}
use Rattle.std.specs.Ordering.{is_lt}
use Rattle.std.proofs.lemmas.List.Sorted.{IsPermutation-map, answers_always, ranks_by}
use Rattle.gtfs_field.specs.TextOrder.{text_cmp}
use Rattle.gtfs_merge.specs.MergeEntries.{entry_value}
use Rattle.gtfs_merge.proofs.Ordering.{sorted-values}
use Rattle.gtfs_merge.proofs.numbering.sorted_rows.sorted.Goals as goal

pub returns-clause-same : goal.returns-clause-same
returns-clause-same c = IsPermutation-map entry_value _ _ c.sort_by.ensures.permutation

pub returns-clause-in_order : goal.returns-clause-in_order
returns-clause-in_order c =
    sorted-values _
    (c.in_ok-sort_by.ensures.sorted (λ x y. is_lt (text_cmp (entry_value x).id (entry_value y).id)) (ranks_by nat_list_cmp_total (λ x. (entry_value x).id)) (answers_always _ _ _ (λ f a r g called. search rules)))

use Rattle.std.proofs.Common.{rules}
use Rattle.std.specs.Ordering.{is_lt}
use Rattle.std.proofs.lemmas.List.Sorted.{answers_always, ranks_by}
use Rattle.gtfs_field.specs.TextOrder.{text_cmp}
use Rattle.gtfs_field.proofs.TextOrderFacts.{texts_total}
use Rattle.gtfs_devices.proofs.disk_names.list.Goals as goal

pub returns-clause-ordered : goal.returns-clause-ordered
returns-clause-ordered g c =
    c.sort_unstable_by.ensures.sorted (λ x y. is_lt (text_cmp x y)) (ranks_by texts_total (λ x. x)) (answers_always _ _ _ (λ f a r h called. search rules))

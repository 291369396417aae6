use Rattle.std.proofs.Common.{rules, of_calls, Bool, List, nat_lt}
use Rattle.std.proofs.lemmas.List.Sorted.{IsPartitionPoint-from_clause}
use Rattle.gtfs_runs.specs.declared.stop_index.children.Child.{Child}
use Rattle.gtfs_runs.proofs.ChildFacts.{lower_first}
use Rattle.gtfs_runs.proofs.Ranks.{parted_tally}
use Rattle.gtfs_runs.proofs.stop_index.children.start_of.Goals as goal

pub returns-clause-value : goal.returns-clause-value
returns-clause-value c =
    let xs : List Child = c.args.children.now in
    let test : Child → Bool = λ x. nat_lt x.parent c.args.stop in
    let n = c.partition_point.result in
    let parted = IsPartitionPoint-from_clause test xs n c.partition_point.ensures.partitioned (lower_first xs c.args.stop c.requires) (λ a r f k. search (rules, of_calls)) in
    parted_tally test xs n c.partition_point.ensures.bound parted.0 parted.1

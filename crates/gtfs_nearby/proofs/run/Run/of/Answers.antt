use Rattle.std.proofs.Common.{rules, of_calls, List}
use Rattle.std.proofs.lemmas.List.Sorted.{IsPartitionPoint-from_clause}
use Rattle.gtfs_nearby.specs.declared.listed.Listed.{Listed}
use Rattle.gtfs_nearby.proofs.Runs.{before-parted, is_before, is_up_to, run-is, up_to-parted}
use Rattle.gtfs_nearby.proofs.run.Run.of.Goals as goal

pub returns : goal.returns
returns c =
    let xs : List Listed = c.args.listed.now in
    let p = c.args.place.now in
    let from = c.partition_point.result in
    let until = c.partition_point-2.result in
    let first = IsPartitionPoint-from_clause (is_before p) xs from c.partition_point.ensures.partitioned (before-parted p xs c.requires) (λ a r f k. search (rules, of_calls)) in
    let last = IsPartitionPoint-from_clause (is_up_to p) xs until c.partition_point-2.ensures.partitioned (up_to-parted p xs c.requires) (λ a r f k. search (rules, of_calls)) in
    run-is p xs from until c.partition_point.ensures.bound c.partition_point-2.ensures.bound first last

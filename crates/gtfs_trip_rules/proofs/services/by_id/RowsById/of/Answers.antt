use Rattle.std.proofs.Common.{rules, of_calls, ◌≡◌, ◌∙◌, ◌-◌, true, false, List, take, drop, length, map, is_lt, ap}
use Rattle.std.specs.Ordering.{is_le}
use Rattle.std.specs.List.Sorted.{IsPartitionPoint}
use Rattle.std.proofs.lemmas.List.{take_rest}
use Rattle.std.proofs.lemmas.List.Sorted.{IsPartitionPoint-from_clause}
use Rattle.gtfs_field.specs.TextOrder.{text_cmp}
use Rattle.gtfs_trip_rules.specs.RowsById.{rows_of, IdRow}
use Rattle.gtfs_trip_rules.proofs.ServiceIds.{below-partitioned, upto-partitioned, rest-by-id, rows-between, rows_of_kept}
use Rattle.gtfs_trip_rules.proofs.services.by_id.RowsById.of.Goals as goal

pub returns : goal.returns
returns c =
    let all : List IdRow = c.self.inside.rows.items in
    let id = c.args.id.now in
    let from = c.partition_point-from.result in
    let until = c.partition_point-until.result in
    let lent : take (length all - from) (drop from all) ≡ drop from all = take_rest all from in
    let first : IsPartitionPoint (λ x. is_lt (text_cmp x.0.now id) ≡ true) (λ x. is_lt (text_cmp x.0.now id) ≡ false) all from =
    IsPartitionPoint-from_clause (λ x. is_lt (text_cmp x.0.now id)) all from (rw c.as_slice-rows.ensures.value at c.partition_point-from.ensures.partitioned) (below-partitioned id all c.self.invariant) (λ a r f k. search (rules, of_calls)) in
    let second : IsPartitionPoint (λ x. is_le (text_cmp x.0.now id) ≡ true) (λ x. is_le (text_cmp x.0.now id) ≡ false) (drop from all) until =
    IsPartitionPoint-from_clause (λ x. is_le (text_cmp x.0.now id)) (drop from all) until (rw (c.as_slice-rows.ensures.value, lent) at c.partition_point-until.ensures.partitioned) (upto-partitioned id (drop from all) (rest-by-id all from c.self.invariant)) (λ a r f k. search (rules, of_calls)) in
    rw (c.as_slice-rows.ensures.value, lent)
    (ap (map (λ r. r.1)) (rows-between id all from until (rw (c.as_slice-rows.ensures.value, lent) at c.partition_point-until.ensures.bound) first second)
    ∙ rows_of_kept all id ∙ ap (λ qs. rows_of qs id) c.self.view_is)

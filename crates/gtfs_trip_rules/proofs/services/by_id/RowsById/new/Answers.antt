use Rattle.std.proofs.Common.{rules, of_calls}
use Rattle.std.proofs.lemmas.Fn.{always_returns_same}
use Rattle.gtfs_table.specs.Rows.{rows}
use Rattle.gtfs_trip_rules.specs.RowsById.{text_under}
use Rattle.gtfs_trip_rules.proofs.ServiceIds.{sorted_rows}
use Rattle.gtfs_trip_rules.proofs.services.by_id.RowsById.new.Goals as goal

pub invariant_of-result : goal.invariant_of-result
invariant_of-result c = c.in_ok-sort_by_key.ensures.sorted (λ r. r.0) (always_returns_same _ _ _ (λ a r f k. search (rules, of_calls)))

pub returns : goal.returns
returns c = λ t. sorted_rows c.in_ok-rows.rows.items c.sort_by_key.new.self.items (text_under c.args.tables.now c.args.file c.args.id) (rows c.args.tables.now c.args.file)
    (record { ref_ptr = (0, 0); now = t }) c.in_ok-rows.ensures (c.sort_by_key.ensures.stable (λ r. r.0) (always_returns_same _ _ _ (λ a r f k. search (rules, of_calls))))

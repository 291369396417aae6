use Rattle.std.proofs.Common.{◌≡◌, ◌++◌}
use Rattle.std.specs.Prelude.{filter, not}
use Rattle.gtfs_table.specs.TablesRead.{is_kept}
use Rattle.gtfs_table.proofs.tables.other_names.Given as goal

abbrev pub invariant-loop-name : goal.invariant-loop-name
invariant-loop-name l =
    l.others.items ++ filter (λ name. not (is_kept name)) l.name-iterator.rest.items
    ≡ filter (λ name. not (is_kept name)) l.fn.names.items

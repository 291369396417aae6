use Rattle.std.proofs.Common.{◌≡◌, drop, map}
use Rattle.gtfs_schema.specs.steps.ColumnView.{column_of}
use Rattle.gtfs_writing.specs.TakenRecords.{with_fields}
use Rattle.gtfs_writing.proofs.headers.write_further_names.Given as goal

abbrev pub invariant-loop-column : goal.invariant-loop-column
invariant-loop-column g l =
    with_fields g.S.Sink.takes l.rows (map (λ c. c.name) (map column_of (drop l.column-index l.columns)))
    ≡ with_fields g.S.Sink.takes l.fn.rows (map (λ c. c.name) (map column_of l.fn.columns))

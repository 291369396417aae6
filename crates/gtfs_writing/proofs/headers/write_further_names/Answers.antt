use Rattle.std.proofs.Common.{refl, map}
use Rattle.gtfs_schema.specs.steps.ColumnView.{column_of}
use Rattle.gtfs_writing.proofs.Taken.{field_done, field_step}
use Rattle.gtfs_writing.proofs.headers.write_further_names.Goals as goal

pub loop-column-preserved : goal.loop-column-preserved
loop-column-preserved g c =
    field_step g.S.Sink.takes (λ xs. map (λ c. c.name) (map column_of xs)) (λ x. (column_of x).name) (λ x xs. refl)
    _ _ _ c.loop-column-test.true _ _ _ c.loop-column.invariant c.in_ok-text.ensures

pub returns : goal.returns
returns g c =
    field_done g.S.Sink.takes (λ xs. map (λ c. c.name) (map column_of xs)) refl _ _ c.loop-column-test.false _ _ c.loop-column.invariant

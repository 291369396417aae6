use Rattle.std.proofs.Common.{refl, map, if◌then◌else◌}
use Rattle.gtfs_field.specs.Canonical.{count_text}
use Rattle.gtfs_writing.proofs.Taken.{field_done, field_step}
use Rattle.gtfs_writing.proofs.calendar.write_flags.Goals as goal

pub loop-day-preserved : goal.loop-day-preserved
loop-day-preserved g c =
    field_step g.S.Sink.takes (λ ds. map (λ d. count_text (if d then 1 else 0)) ds) (λ d. count_text (if d then 1 else 0)) (λ x xs. refl)
    _ _ _ c.loop-day-test.true _ _ _ c.loop-day.invariant c.in_ok-flag.ensures

pub returns : goal.returns
returns g c =
    field_done g.S.Sink.takes (λ ds. map (λ d. count_text (if d then 1 else 0)) ds) refl _ _ c.loop-day-test.false _ _ c.loop-day.invariant

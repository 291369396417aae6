use Rattle.std.proofs.Common.{◌≡◌, drop, map, if◌then◌else◌}
use Rattle.gtfs_field.specs.Canonical.{count_text}
use Rattle.gtfs_writing.specs.TakenRecords.{with_fields}
use Rattle.gtfs_writing.proofs.calendar.write_flags.Given as goal

abbrev pub invariant-loop-day : goal.invariant-loop-day
invariant-loop-day g l =
    with_fields g.S.Sink.takes l.rows (map (λ d. count_text (if d then 1 else 0)) (drop l.day-index l.days))
    ≡ with_fields g.S.Sink.takes l.fn.rows (map (λ d. count_text (if d then 1 else 0)) l.fn.days)

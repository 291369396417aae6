use Rattle.std.proofs.Common.{◌∙◌, ap, sym, map, length, if◌then◌else◌}
use Rattle.gtfs_field.specs.Canonical.{count_text}
use Rattle.gtfs_writing.specs.TakenRecords.{with_fields}
use Rattle.gtfs_writing.proofs.Weeks.{on_ok_then, week_row}
use Rattle.gtfs_writing.proofs.calendar.write_week.Goals as goal

pub returns : goal.returns
returns g c =
    let seven = ap length (sym c.days_of.ensures.days) ∙ c.days_of.ensures.seven in
    let flags = c.in_ok-write_flags.ensures ∙ ap (λ ds. with_fields g.S.Sink.takes c.first.new.self (map (λ d. count_text (if d then 1 else 0)) ds)) c.days_of.ensures.days in
    on_ok_then c.last.result _ _ _ c.last.ensures (week_row g.S.Sink.takes c.args.rows.now _ _ _ _ c.args.service_id.now c.args.week.now seven
    c.in_ok-first.ensures flags c.in_ok-date.ensures c.in_ok-date-2.ensures)

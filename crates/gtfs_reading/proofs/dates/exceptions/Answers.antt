use Rattle.std.proofs.Common.{◌∙◌, [], ap, map}
use Rattle.std.proofs.lemmas.List.{take_all}
use Rattle.gtfs_schema.specs.Calendars.{exception_in}
use Rattle.gtfs_reading.proofs.Fields.{read_next}
use Rattle.gtfs_reading.proofs.dates.exceptions.Goals as goal

pub loop-row-init : goal.loop-row-init
loop-row-init c = c.new-exceptions.ensures.items

pub loop-row-preserved : goal.loop-row-preserved
loop-row-preserved c = c.in_ok-push.ensures.items
    ∙ read_next (exception_in c.args.tables.now) c.args.rows.now c.loop-row.row-index c.loop-row.exceptions.items _ (record { ref_ptr = (0, 0); now = [] }, 0) c.loop-row-test.true
    c.loop-row.invariant c.exception.ensures

pub returns : goal.returns
returns c = c.loop-row.invariant ∙ ap (λ rs. map (exception_in c.args.tables.now) (map (λ r. r.1) rs)) (take_all c.loop-row.row-index c.args.rows.now c.loop-row-test.false)

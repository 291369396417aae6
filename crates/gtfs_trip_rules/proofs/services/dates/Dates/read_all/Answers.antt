use Rattle.std.proofs.Common.{sym, ◌∙◌, []}
use Rattle.gtfs_trip_rules.specs.ServiceFields.{exception_in}
use Rattle.gtfs_trip_rules.proofs.DayFacts.{read_more, read_none}
use Rattle.gtfs_trip_rules.proofs.services.dates.Dates.read_all.Goals as goal

pub returns-in-None : goal.returns-in-None
returns-in-None c = sym (read_none (exception_in c.args.tables.now c.args.self.now) (λ r. r.1) c.args.rows.now c.loop-row.row-index (record { ref_ptr = (0, 0); now = [] }, 0) c.loop-row-test.true
    (sym c.read.ensures ∙ c.in-None.is))

pub loop-row-preserved : goal.loop-row-preserved
loop-row-preserved c = rw c.in_ok-push-in-Some.ensures.items (read_more (exception_in c.args.tables.now c.args.self.now) (λ r. r.1) c.args.rows.now c.loop-row.row-index (record { ref_ptr = (0, 0); now = [] }, 0) c.loop-row-test.true
    c.loop-row.exceptions.items c.in-Some.exception c.loop-row.invariant (sym c.read.ensures ∙ c.in-Some.is))

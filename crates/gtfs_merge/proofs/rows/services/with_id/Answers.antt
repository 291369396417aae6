use Rattle.std.proofs.Common.{◌∙◌, subst, sym}
use Rattle.gtfs_days.specs.Service.{IsOrdered}
use Rattle.gtfs_merge.proofs.ServiceCopies.{once-by_day, same-exceptions}
use Rattle.gtfs_merge.proofs.rows.services.with_id.Goals as goal

pub new-requires-clause-ordered : goal.new-requires-clause-ordered
new-requires-clause-ordered c = subst IsOrdered (sym (c.copied.ensures ∙ c.week.ensures.value)) c.week.ensures.ordered

pub new-requires-clause-once : goal.new-requires-clause-once
new-requires-clause-once c = once-by_day _ c.exceptions.ensures.by_day

pub returns : goal.returns
returns c = λ i. record {
  service_id = c.in_ok-copy_of.ensures i;
  service = record {
    week = (c.in_ok-new.ensures.week ∙ c.copied.ensures ∙ c.week.ensures.value) i;
    exceptions = (same-exceptions _ _ c.in_ok-new.ensures.exceptions c.exceptions.ensures.by_day c.in_ok-new.ensures.by_day ∙ c.exceptions.ensures.value) i;
  };
}

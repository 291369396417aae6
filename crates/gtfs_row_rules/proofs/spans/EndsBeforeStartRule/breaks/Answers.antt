use Rattle.std.proofs.Common.{rules}
use Rattle.gtfs_row_rules.proofs.spans.EndsBeforeStartRule.breaks.Goals as goal

pub returns-clause-answer : goal.returns-clause-answer
returns-clause-answer c = rw (← c.value.ensures, ← c.value-2.ensures, ← c.date-end.ensures, ← c.date-start.ensures) (search rules)

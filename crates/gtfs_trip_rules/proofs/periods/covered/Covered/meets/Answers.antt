use Rattle.std.proofs.Common.{◌∙◌}
use Rattle.gtfs_trip_rules.proofs.SpanSteps.{met_is}
use Rattle.gtfs_trip_rules.proofs.periods.covered.Covered.meets.Goals as goal

pub returns : goal.returns
returns c = c.is_some.ensures ∙ met_is c.args.self.now.spans c.args.self.now.filled c.args.trip c.args.start c.args.end c.span_met.result c.span_met.ensures

use Rattle.gtfs_schema.proofs.FoundFacts.{listed_push}
use Rattle.gtfs_schema.proofs.found.Found.report_if.Goals as goal

pub returns-in_ok-push : goal.returns-in_ok-push
returns-in_ok-push c = λ p. rw (c.in_ok-push.ensures.items, ← c.self.view_is, c.if-holds.true) (listed_push c.self.inside.problems.items c.args.problem p)

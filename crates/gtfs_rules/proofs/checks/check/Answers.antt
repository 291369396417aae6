use Rattle.std.proofs.Common.{List, subst}
use Rattle.gtfs_schema.specs.steps.FoundProblems.{Reports}
use Rattle.gtfs_rules.specs.steps.PartsOfCheck.{every}
use Rattle.gtfs_schema.specs.Problems.{Problem}
use Rattle.gtfs_rules.proofs.CompleteFacts.{all_picked}
use Rattle.gtfs_schema.proofs.ReportingFacts.{reports_all}
use Rattle.gtfs_rules.proofs.checks.check.Goals as goal

pub new-requires-2-clause-found : goal.new-requires-2-clause-found
new-requires-2-clause-found c =
    let d = c.args.tables.now in
    let last = c.report_all.new.found in
    reports_all d every last (all_picked d)
    (subst (λ (first : List Problem). Reports d every first last) c.new-found.ensures c.in_ok-stop_times.ensures.reported)

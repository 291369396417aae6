use Rattle.std.proofs.Common.{Some}
use Rattle.gtfs_cli.specs.AskedCommand.{plan_of}
use Rattle.gtfs_cli.proofs.OneCommand.{one-command}
use Rattle.gtfs_cli.proofs.OneOutcome.{run-ends}
use Rattle.gtfs_cli.proofs.law.runs_end_with_outcomes.Goals as goal

pub returns : goal.returns
returns c = λ limit store talk words asked before after err told status taken asks quiet free.
    run-ends (plan_of limit (Some store) talk words asked) (Some store) (one-command limit store talk words asked taken asks quiet) before after err told status free

use Rattle.std.proofs.Common.{Some}
use Rattle.gtfs_cli.specs.AskedCommand.{plan_of}
use Rattle.gtfs_cli.proofs.AskedOne.{one-asked}
use Rattle.gtfs_cli.proofs.OneCommand.{one-command}
use Rattle.gtfs_cli.proofs.OneOutcome.{one-outcome}
use Rattle.gtfs_cli.proofs.law.outcomes_are_one.Goals as goal

pub returns-clause-asked : goal.returns-clause-asked
returns-clause-asked c = one-asked

pub returns-clause-outcome : goal.returns-clause-outcome
returns-clause-outcome c = λ limit store talk words asked x y taken asks quiet.
    one-outcome (plan_of limit (Some store) talk words asked) (Some store) (one-command limit store talk words asked taken asks quiet) x y

use Rattle.gtfs_cli.proofs.commands.run.Goals as goal

pub returns-clause-asks : goal.returns-clause-asks
returns-clause-asks g c = c.run_with_input.ensures.asks

pub returns-clause-ends : goal.returns-clause-ends
returns-clause-ends g c = c.run_with_input.ensures.ends

pub returns-clause-statuses : goal.returns-clause-statuses
returns-clause-statuses g c = c.run_with_input.ensures.statuses

pub returns-clause-no_failure : goal.returns-clause-no_failure
returns-clause-no_failure g c = c.run_with_input.ensures.no_failure

use Rattle.std.proofs.Common.{◌∙◌, ap, map}
use Rattle.gtfs_cli.proofs.AskedOne.{asks-some}
use Rattle.gtfs_cli.proofs.Ended.{failed-nowhere, statuses-ended}
use Rattle.gtfs_cli.proofs.Served.{input-kept}
use Rattle.gtfs_cli.proofs.commands.run_with_input.Goals as goal

pub returns-clause-asks : goal.returns-clause-asks
returns-clause-asks g c = asks-some (map g.S.AsStr.text c.args.words.now)

pub returns-clause-ends : goal.returns-clause-ends
returns-clause-ends g c = λ asked asks. record {
  ended = c.command-ended.result;
  ends = c.command-ended.ensures.ends asked asks;
  gives = c.finish.ensures.status;
  line = c.finish.ensures.told;
}

pub returns-clause-statuses : goal.returns-clause-statuses
returns-clause-statuses g c = statuses-ended c.command-ended.result c.finish.result c.finish.ensures.status

pub returns-clause-no_failure : goal.returns-clause-no_failure
returns-clause-no_failure g c =
    let asked = asks-some (map g.S.AsStr.text c.args.words.now) in
    failed-nowhere _ _ _ c.command-ended.result c.finish.result c.finish.ensures.status (c.command-ended.ensures.ends asked.0 asked.1)

pub returns-clause-no_input_failure : goal.returns-clause-no_input_failure
returns-clause-no_input_failure g c = λ other.
    let asked = asks-some (map g.S.AsStr.text c.args.words.now) in
    input-kept _ _ _ _ asked.0 _ _ c.command-ended.result (c.command-ended.ensures.ends asked.0 asked.1)
    (λ quiet. ap (λ (i : g.row.I.Denot). record { waiting = g.I.Input.waiting i; asked = g.I.Input.asked i; failures = g.I.Input.failure_count i }) (c.command-ended.ensures.unheard asked.0 asked.1 quiet))
    (λ is. other (c.finish.ensures.status ∙ is))

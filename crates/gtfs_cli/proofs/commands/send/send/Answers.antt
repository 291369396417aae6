use Rattle.gtfs_cli.proofs.Parts.{some-sent}
use Rattle.gtfs_cli.proofs.commands.send.send.Goals as goal

pub returns-in-Err-clause-sent : goal.returns-in-Err-clause-sent
returns-in-Err-clause-sent g c = record {
  sent = tt;
  cut_short = some-sent (g.O.Out.told c.args.out.now) (g.O.Out.told c.write_text.new.out) c.args.text.now c.in-Err.field-0.written c.in-Err.ensures.prefix;
  refused = c.in-Err.ensures.once;
  grows = c.write_text.ensures.grows;
  no_failure = tt;
}

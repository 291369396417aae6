use Rattle.gtfs_cli.proofs.Asking.{strip-text}
use Rattle.gtfs_cli.proofs.commands.serve.questions.fields_behind.Goals as goal

pub returns : goal.returns
returns c = strip-text c.args.word.now c.args.line.now c.strip_prefix.result c.strip_prefix.ensures.cases

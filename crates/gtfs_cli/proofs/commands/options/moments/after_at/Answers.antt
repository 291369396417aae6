use Rattle.std.proofs.Common.{◌∙◌, arith}
use Rattle.std.proofs.lemmas.Str.Pattern.{strip_prefix_char}
use Rattle.clap.proofs.LexerLemmas.{strip_byte-from}
use Rattle.gtfs_cli.proofs.Moments.{after_at-strips}
use Rattle.gtfs_cli.proofs.commands.options.moments.after_at.Goals as goal

pub returns : goal.returns
returns c =
    strip_byte-from 64 c.args.text.now c.strip_prefix.result (strip_prefix_char 64 c.args.text.now c.strip_prefix.result c.strip_prefix.ensures.cases (omega arith))
    ∙ after_at-strips c.args.text.now

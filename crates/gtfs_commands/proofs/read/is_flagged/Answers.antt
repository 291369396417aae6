use Rattle.std.proofs.Common.{◌∙◌, ap}
use Rattle.clap.specs.Words.{found_of}
use Rattle.gtfs_commands.specs.AskedTexts.{is_from_words}
use Rattle.gtfs_commands.proofs.Flags.{source-rows}
use Rattle.gtfs_commands.proofs.read.is_flagged.Goals as goal

pub returns : goal.returns
returns c = c.is_from_words.ensures ∙ ap is_from_words (c.value_source.ensures ∙ source-rows (found_of c.args.given.now) c.args.id.now)

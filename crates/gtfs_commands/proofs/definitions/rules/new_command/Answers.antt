use Rattle.std.proofs.Common.{◌∙◌, ap}
use Rattle.clap.specs.Simple.{app_of_fields}
use Rattle.gtfs_commands.proofs.definitions.rules.new_command.Goals as goal

pub returns : goal.returns
returns c = ap app_of_fields c.after_help.ensures ∙ c.described.ensures

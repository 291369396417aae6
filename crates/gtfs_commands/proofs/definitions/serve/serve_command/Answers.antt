use Rattle.gtfs_commands.proofs.definitions.serve.serve_command.Goals as goal

pub returns : goal.returns
returns c = c.with_flag.ensures _ (c.with_option-zone.ensures _ (c.with_word-dir.ensures _ c.new_command-serve.ensures))

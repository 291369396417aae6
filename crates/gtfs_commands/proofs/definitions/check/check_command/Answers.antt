use Rattle.gtfs_commands.proofs.definitions.check.check_command.Goals as goal

pub returns : goal.returns
returns c =
    c.with_choice.ensures _ (c.with_flag-advise.ensures _ (c.with_flag-summary.ensures _ (c.with_flag-values.ensures _
    (c.with_word-dir.ensures _ c.new_command-check.ensures))))

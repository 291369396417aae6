use Rattle.gtfs_commands.proofs.definitions.merge.merge_command.Goals as goal

pub returns : goal.returns
returns c =
    c.with_choice.ensures _ (c.with_choice-near.ensures _ (c.with_word-out.ensures _ (c.with_word-second.ensures _
    (c.with_word-first.ensures _ c.new_command-merge.ensures))))

use Rattle.gtfs_commands.proofs.definitions.board.needed_board.Goals as goal

pub returns : goal.returns
returns c =
    c.with_option.ensures _ (c.with_option-from.ensures _ (c.with_option-stop.ensures _ (c.with_option-zone.ensures _
    (c.with_word-dir.ensures _ c.new_command-board.ensures))))

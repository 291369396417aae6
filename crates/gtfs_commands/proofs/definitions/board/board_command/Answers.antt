use Rattle.gtfs_commands.proofs.definitions.board.board_command.Goals as goal

pub returns : goal.returns
returns c = c.with_flag.ensures _ (c.with_choice-after.ensures _ (c.with_choice-limit.ensures _ c.needed_board.ensures))

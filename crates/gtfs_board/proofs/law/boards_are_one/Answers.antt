use Rattle.gtfs_board.proofs.OneBoard.{one-board}
use Rattle.gtfs_board.proofs.law.boards_are_one.Goals as goal

pub returns : goal.returns
returns c = one-board

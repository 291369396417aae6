use Rattle.gtfs_board.proofs.Slashes.{cut_first}
use Rattle.gtfs_board.proofs.key.reading.cut_at_first.Goals as goal

pub returns : goal.returns
returns c = cut_first c.args.text.now c.split_once.result c.split_once.ensures.cases

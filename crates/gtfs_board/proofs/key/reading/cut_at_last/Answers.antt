use Rattle.gtfs_board.proofs.Slashes.{cut_last}
use Rattle.gtfs_board.proofs.key.reading.cut_at_last.Goals as goal

pub returns : goal.returns
returns c = cut_last c.args.text.now c.rsplit_once.result c.rsplit_once.ensures.cases

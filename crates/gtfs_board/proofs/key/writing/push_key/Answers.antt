use Rattle.gtfs_board.specs.LentKeys.{plain_key}
use Rattle.gtfs_board.proofs.KeyTexts.{key_of-text}
use Rattle.gtfs_board.proofs.key.writing.push_key.Goals as goal

pub returns-clause-reads_back : goal.returns-clause-reads_back
returns-clause-reads_back c = key_of-text (plain_key c.args.key.now)

pub returns-in_err-reserve-clause-reads_back : goal.returns-in_err-reserve-clause-reads_back
returns-in_err-reserve-clause-reads_back c = key_of-text (plain_key c.args.key.now)

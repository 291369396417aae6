use Rattle.gtfs_reading.specs.FeedRows.{AreRowsOf}
use Rattle.gtfs_reading.proofs.Filled.{filled}
use Rattle.gtfs_reading.proofs.feed_rows.FeedRows.new.Goals as goal

pub returns : goal.returns
returns c = filled (AreRowsOf c.args.tables.now) c.read.result c.and.result c.read.new.self c.and.ensures c.read.ensures (λ are. are)

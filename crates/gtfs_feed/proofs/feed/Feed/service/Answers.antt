use Rattle.gtfs_rows.proofs.SoundOrder.{in_order}
use Rattle.gtfs_feed.proofs.feed.Feed.service.Goals as goal

pub number_of-requires : goal.number_of-requires
number_of-requires c = rw c.as_slice.ensures (in_order c.self.inside.parts c.self.invariant).services

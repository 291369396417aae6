use Rattle.gtfs_reading.proofs.StopTimesAdded.{content_is}
use Rattle.gtfs_reading.proofs.feed_rows.FeedRows.with_stop_times.Goals as goal

pub returns-clause-content : goal.returns-clause-content
returns-clause-content c = λ d are stop_times. content_is _ d are stop_times

use Rattle.std.proofs.Common.{◌∙◌, ap, is_some}
use Rattle.gtfs_merge.specs.FeedIds.{known_ids}
use Rattle.gtfs_merge.proofs.JoinedIds.{has-number}
use Rattle.gtfs_merge.proofs.feed_ids.has_this_id.Goals as goal

pub returns : goal.returns
returns c = c.is_some.ensures ∙ ap is_some c.number_of.ensures ∙ has-number (known_ids c.args.kind c.args.feed.now) c.args.id.now

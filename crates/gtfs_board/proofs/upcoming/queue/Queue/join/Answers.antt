use Rattle.std.proofs.Common.{◌≡◌, ◌++◌, sym, append-nil}
use Rattle.std.specs.Option.{option_to_list}
use Rattle.gtfs_board.proofs.Queues.{joined_left}
use Rattle.gtfs_board.proofs.upcoming.queue.Queue.join.Goals.{in-Some+in_ok-push, in_default}
use Rattle.gtfs_board.proofs.upcoming.queue.Queue.join.Goals as goal

pub returns-clause-counts : goal.returns-clause-counts
returns-clause-counts c =
    let fresh = c.args.fresh.items in
    let more : c.match-head.fresh.items ≡ fresh ++ option_to_list c.args.head = elim c.match-head.branch [
      | in-Some+in_ok-push w ↦ rw (w.fresh-is, w.in-Some.is) w.in_ok-push.ensures.items
      | in_default w ↦ rw (w.fresh-is, w.in_default.is) (sym (append-nil fresh))
    ] in
    joined_left c.args.self.now fresh c.match-head.fresh.items c.take_in.new.self c.pop.new.self c.args.head c.pop.result more c.in_ok-take_in.ensures.counts c.pop.ensures.counts

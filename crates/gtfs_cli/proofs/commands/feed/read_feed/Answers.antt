use Rattle.gtfs_cli.specs.ReadingCauses.{IsReadingCause}
use Rattle.gtfs_cli.specs.declared.commands.refusal.Refusal.TheVariants.{OutOfMemory}
use Rattle.gtfs_cli.proofs.ReadsThen.{reads-done, told-up}
use Rattle.gtfs_cli.proofs.commands.feed.read_feed.Goals as goal

pub returns-in_err-into_feed-clause-refused : goal.returns-in_err-into_feed-clause-refused
returns-in_err-into_feed-clause-refused g c =
    let F = g.F.Folders in
    let old = c.args.folders.now in
    told-up c.from_residual-in_err-into_feed.result OutOfMemory
    (IsReadingCause (F.limit old) (F.held old) c.args.dir.now (F.failure_count old) (F.failure_count c.read_draft.new.folders)) c.from_residual-in_err-into_feed.ensures.1
    c.in_ok-draft.ensures.reads.asks.no_failure

pub returns-in_err-into_feed-clause-reads : goal.returns-in_err-into_feed-clause-reads
returns-in_err-into_feed-clause-reads g c = reads-done 10 _ _ _ c.from_residual-in_err-into_feed.result c.in_ok-draft.ensures.reads

pub returns-clause-reads : goal.returns-clause-reads
returns-clause-reads g c = reads-done 10 _ _ _ _ c.in_ok-draft.ensures.reads

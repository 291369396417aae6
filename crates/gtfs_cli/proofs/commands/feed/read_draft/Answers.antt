use Rattle.gtfs_cli.specs.ReadingCauses.{IsReadingCause}
use Rattle.gtfs_cli.proofs.FoldersRead.{feed-cause, tables-cause}
use Rattle.gtfs_cli.proofs.ReadsThen.{reads-done, told-up}
use Rattle.gtfs_cli.proofs.commands.feed.read_draft.Goals as goal

pub returns-in_err-tables-clause-refused : goal.returns-in_err-tables-clause-refused
returns-in_err-tables-clause-refused g c =
    let F = g.F.Folders in
    let old = c.args.folders.now in
    let new = c.read_tables.new.folders in
    let r = c.in_err-tables.field-0.0 in
    told-up c.from_residual.result r (IsReadingCause (F.limit old) (F.held old) c.args.dir.now (F.failure_count old) (F.failure_count new)) c.from_residual.ensures.1
    (tables-cause (F.limit old) (F.held old) c.args.dir.now (F.failure_count old) (F.failure_count new) r c.in_err-tables.ensures.refused)

pub returns-in_err-draft-clause-refused : goal.returns-in_err-draft-clause-refused
returns-in_err-draft-clause-refused g c =
    let F = g.F.Folders in
    let old = c.args.folders.now in
    let new = c.read_tables.new.folders in
    let r = c.in_err-draft.field-0.0 in
    told-up c.from_residual-in_err-draft.result r (IsReadingCause (F.limit old) (F.held old) c.args.dir.now (F.failure_count old) (F.failure_count new)) c.from_residual-in_err-draft.ensures.1
    (feed-cause (F.limit old) (F.held old) c.args.dir.now (F.failure_count old) (F.failure_count new) c.in_ok-tables.ensures.reads.asks.no_failure c.in_ok-tables.tables
    c.in_ok-tables.ensures.whole r c.in_err-draft.ensures.refused)

pub returns-in_err-draft-clause-reads : goal.returns-in_err-draft-clause-reads
returns-in_err-draft-clause-reads g c = reads-done 10 _ _ c.in_ok-tables.tables c.from_residual-in_err-draft.result c.in_ok-tables.ensures.reads

pub returns-clause-read : goal.returns-clause-read
returns-clause-read g c = record { dataset = c.in_ok-tables.tables; holds = c.in_ok-tables.ensures.whole; is_feed = c.in_ok-draft.ensures.read }

pub returns-clause-reads : goal.returns-clause-reads
returns-clause-reads g c = reads-done 10 _ _ c.in_ok-tables.tables _ c.in_ok-tables.ensures.reads

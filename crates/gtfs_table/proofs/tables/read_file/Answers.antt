use Rattle.std.proofs.Common.{None}
use Rattle.gtfs_table.proofs.FolderFacts.{finds-table, table-none, within-absent}
use Rattle.gtfs_table.proofs.ProgressFacts.{none-taken}
use Rattle.gtfs_table.proofs.tables.read_file.Goals as goal

pub lend-requires : goal.lend-requires
lend-requires g c = λ rest. rw (c.new-reader.ensures) (none-taken rest)

pub returns-else-branch-clause-reads : goal.returns-else-branch-clause-reads
returns-else-branch-clause-reads g c =
    let lent = rw (c.if-branch.false, c.name.ensures) at c.in_ok-lend.ensures.lends in
    rw (c.absent.ensures, ← table-none) (finds-table (g.F.Folders.held c.args.folders.now) c.args.dir.now c.args.file None lent.0)

pub returns-else-branch-clause-within : goal.returns-else-branch-clause-within
returns-else-branch-clause-within g c =
    let lent = rw (c.if-branch.false, c.name.ensures) at c.in_ok-lend.ensures.lends in
    within-absent (g.F.Folders.limit c.args.folders.now) (g.F.Folders.held c.args.folders.now) c.args.dir.now c.args.file lent.0

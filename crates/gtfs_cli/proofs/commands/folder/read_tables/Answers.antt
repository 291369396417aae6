use Rattle.std.proofs.Common.{◌<◌, ap, length, rules, subst, Err}
use Rattle.gtfs_devices.specs.declared.folders.FolderFault.{FolderFault}
use Rattle.gtfs_table.specs.TablesRead.{RefusesDataset}
use Rattle.gtfs_cli.proofs.CallsMade.{some-calls}
use Rattle.gtfs_cli.proofs.ReadsThen.{asks-fault}
use Rattle.gtfs_cli.proofs.commands.folder.read_tables.Goals as goal

pub returns-in-Err-clause-refused : goal.returns-in-Err-clause-refused
returns-in-Err-clause-refused g c =
    let named : 0 < length c.args.dir.now = search rules in
    let F = g.F.Folders in
    let old = c.args.folders.now in
    c.of_folder.ensures.tables (F.limit old) (F.held old) (F.failure_count old) (F.failure_count c.read_in.new.folders) named c.in-Err.ensures.refused c.in-Err.ensures.counts_fault

pub returns-in-Err-clause-reads : goal.returns-in-Err-clause-reads
returns-in-Err-clause-reads g c =
    let F = g.F.Folders in
    let old = c.args.folders.now in
    let new = c.read_in.new.folders in
    record {
      unchanged = c.read_in.ensures.unchanged;
      same_limit = c.read_in.ensures.same_limit;
      asks = asks-fault 10 _ _ c.in-Err.fault _ c.read_in.ensures.grows c.in-Err.ensures.counts_fault
          (c.of_folder.ensures.told _ _ c.in-Err.ensures.counts_fault)
          (some-calls 10 (F.calls old) (F.calls new) c.in-Err.ensures.called_until)
          (λ is. c.in-Err.ensures.ends (ap (λ (f : FolderFault). Err f) is))
          (λ is. absurd (subst (λ (f : FolderFault). RefusesDataset f (F.limit old) (F.held old) c.args.dir.now (F.failure_count old) (F.failure_count new)) is
          c.in-Err.ensures.refused));
    }

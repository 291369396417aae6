use Rattle.std.proofs.Common.{◌<◌, ◌∙◌, ap, arith, length, sym, subst, Err}
use Rattle.std.proofs.lemmas.Bool.{eqb-false}
use Rattle.gtfs_devices.specs.Folder.{RefusesRead}
use Rattle.gtfs_devices.specs.declared.folders.FolderFault.{FolderFault}
use Rattle.gtfs_cli.proofs.CallsMade.{so-many}
use Rattle.gtfs_cli.proofs.FoldersRead.{file-cause}
use Rattle.gtfs_cli.proofs.ReadsThen.{asks-fault}
use Rattle.gtfs_cli.proofs.commands.files.read_file.Goals as goal

pub returns-in-Err-clause-refused : goal.returns-in-Err-clause-refused
returns-in-Err-clause-refused g c =
    let F = g.F.Folders in
    let old = c.args.folders.now in
    let new = c.read.new.self in
    let (folder, name) = c.cut_path.result in
    let named : 0 < length name.now = omega (arith, eqb-false (length name.now) 0 (sym c.is_empty.ensures ∙ c.if-is_empty.false)) in
    c.of_folder.ensures.file (F.limit old) (F.held old) (F.failure_count old) (F.failure_count new)
    (file-cause (F.limit old) (F.held old) c.args.path.now (F.failure_count old) (F.failure_count new) folder.now name.now c.in-Err.fault c.cut_path.ensures named
    c.in-Err.ensures.counts_fault c.in-Err.ensures.refused)

pub returns-in-Err-clause-reads : goal.returns-in-Err-clause-reads
returns-in-Err-clause-reads g c =
    let F = g.F.Folders in
    let old = c.args.folders.now in
    let new = c.read.new.self in
    let (folder, name) = c.cut_path.result in
    record {
      unchanged = c.read.ensures.unchanged;
      same_limit = c.read.ensures.same_limit;
      asks = asks-fault 1 _ _ c.in-Err.fault _ c.read.ensures.grows c.in-Err.ensures.counts_fault
          (c.of_folder.ensures.told _ _ c.in-Err.ensures.counts_fault)
          (so-many 1 1 (F.calls old) (F.calls new) (omega arith) c.read.ensures.called)
          (λ is. c.in-Err.ensures.ends (ap (λ (f : FolderFault). Err f) is))
          (λ is. absurd (subst (λ (f : FolderFault). RefusesRead f (F.limit old) (F.held old) folder.now name.now (F.failure_count old) (F.failure_count new)) is
          c.in-Err.ensures.refused));
    }

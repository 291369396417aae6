use Rattle.std.proofs.Common.{List, ℕ, subst, sym}
use Rattle.std.proofs.lemmas.Result.{IfErr-weaker}
use Rattle.gtfs_cli.specs.ReadingCauses.{IsZoneCause}
use Rattle.gtfs_cli.specs.FilesInFolders.{HoldsBytes}
use Rattle.gtfs_cli.proofs.FoldersRead.{path-cause}
use Rattle.gtfs_cli.proofs.ReadsThen.{told-up}
use Rattle.gtfs_cli.proofs.commands.zone_file.read_zone.Goals as goal

pub returns-in_err-bytes-clause-refused : goal.returns-in_err-bytes-clause-refused
returns-in_err-bytes-clause-refused g c =
    let F = g.F.Folders in
    let old = c.args.folders.now in
    let new = c.read_file.new.folders in
    let r = c.in_err-bytes.field-0.0 in
    told-up c.from_residual.result r (IsZoneCause (F.limit old) (F.held old) c.args.path.now (F.failure_count old) (F.failure_count new)) c.from_residual.ensures.1
    (path-cause (F.limit old) (F.held old) c.args.path.now (F.failure_count old) (F.failure_count new) r c.in_err-bytes.ensures.refused)

pub returns-clause-refused : goal.returns-clause-refused
returns-clause-refused g c =
    let F = g.F.Folders in
    let old = c.args.folders.now in
    let read = subst (λ (bytes : List ℕ). HoldsBytes (F.limit old) (F.held old) c.args.path.now bytes) (sym c.as_slice.ensures.value) c.in_ok-bytes.ensures.read in
    IfErr-weaker c.zone_of.result _ _
    (λ e h. h (F.limit old) (F.held old) (F.failure_count old) (F.failure_count c.read_file.new.folders) read c.in_ok-bytes.ensures.reads.asks.no_failure)
    c.zone_of.ensures.refused

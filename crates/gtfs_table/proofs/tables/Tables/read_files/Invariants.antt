use Rattle.std.proofs.Common.{◌≡◌, take}
use Rattle.gtfs_devices.specs.Device.{MakesCalls}
use Rattle.gtfs_table.specs.TablesRead.{AllHoldWithin, SetsTables, kept_files}
use Rattle.gtfs_table.proofs.tables.Tables.read_files.Given as goal

abbrev pub invariant-loop-file : goal.invariant-loop-file
invariant-loop-file g l = record {
  same : g.F.Folders.held l.folders ≡ g.F.Folders.held l.fn.folders;
  bound : g.F.Folders.limit l.folders ≡ g.F.Folders.limit l.fn.folders;
  none : g.F.Folders.failure_count l.folders ≡ g.F.Folders.failure_count l.fn.folders;
  called : MakesCalls l.file-index (g.F.Folders.calls l.fn.folders) (g.F.Folders.calls l.folders);
  sets : SetsTables (g.F.Folders.held l.fn.folders) l.fn.dir (take l.file-index kept_files) l.fn.self l.self;
  within : AllHoldWithin (g.F.Folders.limit l.fn.folders) (g.F.Folders.held l.fn.folders) l.fn.dir (take l.file-index kept_files);
}

use Rattle.std.proofs.Common.{◌≤◌, take, Ok}
use Rattle.std.specs.Prelude.{⊤}
use Rattle.std.specs.List.{All}
use Rattle.gtfs_table.specs.TablesRead.{kept_files}
use Rattle.gtfs_rows.specs.RowsInMemory.{content_of_parts}
use Rattle.gtfs_cli.specs.MergeParts.{ReadsAs}
use Rattle.gtfs_cli.specs.MergeCommand.{HoldsFiles}
use Rattle.gtfs_cli.specs.FolderCalls.{CallsFolders}
use Rattle.gtfs_cli.proofs.commands.merge.write_feed.Given as goal

abbrev pub invariant-loop-file : goal.invariant-loop-file
invariant-loop-file g l =
    let F = g.F.Folders in
    let old = l.initial.folders in
    let new = l.folders in
    record {
      holds : HoldsFiles (F.held old) (F.held new) l.dir (content_of_parts l.feed) (take l.file-index kept_files);
      read : All (ReadsAs (content_of_parts l.feed)) (take l.file-index kept_files);
      asks : CallsFolders l.file-index {T = ⊤} (record { limit = F.limit old; held = F.held old; failures = F.failure_count old; calls = F.calls old })
          (record { limit = F.limit new; held = F.held new; failures = F.failure_count new; calls = F.calls new }) (Ok tt);
      within : l.file-index ≤ 9;
    }

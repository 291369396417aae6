-- What the parts of a merge give: the values of its options, the merged feed and its names, and the texts of its files.
use Rattle.std.specs.Prelude.{◌≡◌, ℕ, All, Option, Some}
use Rattle.gtfs_devices.specs.Folder.{Store}
use Rattle.gtfs_table.specs.TablesRead.{kept_files}
use Rattle.gtfs_table.specs.Tables.{table_of, table_of_bytes}
use Rattle.gtfs_table.specs.declared.file.File.{File}
use Rattle.gtfs_rows.specs.Content.{Content}
use Rattle.gtfs_rows.specs.WrittenContent.{written}
use Rattle.gtfs_rows.specs.RowsInMemory.{content_of_parts}
use Rattle.gtfs_merge.specs.declared.merging.Merged.{Merged}
use Rattle.gtfs_commands.specs.Words.{MergeTexts}
use Rattle.gtfs_cli.specs.MergeOptions.{MergeRequest}
use Rattle.gtfs_cli.specs.MergeCommand.{file_text, IsFolderMerge}
use Rattle.gtfs_cli.specs.MergeReport.{names_report}
use Rattle.gtfs_cli.specs.declared.commands.merge.options.MergeRequest.{MergeRequest as LentRequest}

-- the request that values are
abbrev pub merge_request_of : LentRequest → MergeRequest
merge_request_of v = record { near = v.near; cutoff = v.cutoff }

-- the feed is the merge of both folders, and the names tell its report
abbrev pub HoldsMerge : ℕ → Option Store → MergeTexts → Option ℕ → Merged → Type 0
HoldsMerge limit held asked near m = IsFolderMerge limit held asked (content_of_parts m.feed) (names_report near m.names)

-- the text of a file of the written form is read as its table
abbrev pub ReadsAs : Content → File → Type 0
ReadsAs c x = table_of_bytes (Some (file_text c x)) ≡ table_of (written c) x

-- so are the texts of all nine
abbrev pub AllReadAs : Content → Type 0
AllReadAs c = All (ReadsAs c) kept_files

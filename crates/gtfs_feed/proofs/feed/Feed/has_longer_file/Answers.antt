use Rattle.std.proofs.Common.{◌≡◌, subst}
use Rattle.std.specs.List.{list_any}
use Rattle.std.specs.Prelude.{IfOk}
use Rattle.gtfs_table.specs.TablesRead.{kept_files}
use Rattle.gtfs_rows.specs.RowsInMemory.{content_of_parts}
use Rattle.gtfs_rows.specs.FileTexts.{is_longer}
use Rattle.gtfs_feed.proofs.feed.Feed.has_longer_file.Goals as goal

pub returns : goal.returns
returns c =
    subst (λ p. IfOk c.has_longer_file.result (λ any. any ≡ list_any (is_longer (content_of_parts p) c.args.limit) kept_files))
    c.parts.ensures.value c.has_longer_file.ensures

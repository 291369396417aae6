use Rattle.std.proofs.Common.{◌≡◌, subst, Some, string_bytes}
use Rattle.std.specs.Prelude.{IfOk}
use Rattle.gtfs_table.specs.Tables.{table_of}
use Rattle.gtfs_table.specs.TableTexts.{text_of_table}
use Rattle.gtfs_rows.specs.RowsInMemory.{content_of_parts}
use Rattle.gtfs_rows.specs.WrittenContent.{written}
use Rattle.gtfs_feed.proofs.feed.Feed.file_text.Goals as goal

pub returns-clause-text : goal.returns-clause-text
returns-clause-text c =
    subst (λ p. IfOk c.file_text.result (λ text. text_of_table (table_of (written (content_of_parts p)) c.args.file) ≡ Some (string_bytes text)))
    c.parts.ensures.value c.file_text.ensures.text

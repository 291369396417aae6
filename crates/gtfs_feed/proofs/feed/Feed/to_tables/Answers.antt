use Rattle.std.proofs.Common.{◌≡◌, subst}
use Rattle.std.specs.Prelude.{IfOk}
use Rattle.gtfs_rows.specs.RowsInMemory.{content_of_parts}
use Rattle.gtfs_rows.specs.WrittenContent.{written}
use Rattle.gtfs_feed.proofs.feed.Feed.to_tables.Goals as goal

pub returns-clause-tables : goal.returns-clause-tables
returns-clause-tables c = subst (λ p. IfOk c.tables.result (λ tables. tables ≡ written (content_of_parts p))) c.parts.ensures.value c.tables.ensures.tables

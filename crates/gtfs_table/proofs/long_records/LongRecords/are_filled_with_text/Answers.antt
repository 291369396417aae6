use Rattle.std.proofs.Common.{List, ℕ, subst}
use Rattle.std.specs.List.{All}
use Rattle.csv.specs.Records.{AllText}
use Rattle.gtfs_table.proofs.WriteFacts.{parts-text}
use Rattle.gtfs_table.proofs.long_records.LongRecords.are_filled_with_text.Goals as goal

pub returns-clause-text : goal.returns-clause-text
returns-clause-text c = subst (λ (rs : List (List (List ℕ))). All AllText rs) c.self.view_is (parts-text c.self.inside.starts c.self.inside.fields c.are_utf8.ensures)

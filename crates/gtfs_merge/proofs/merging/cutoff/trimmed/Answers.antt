use Rattle.std.proofs.Common.{◌≡◌, subst}
use Rattle.std.specs.Prelude.{IfOk}
use Rattle.gtfs_rows.specs.TrimmedContent.{trimmed}
use Rattle.gtfs_rows.specs.RowsInMemory.{content_of_parts}
use Rattle.gtfs_merge.proofs.merging.cutoff.trimmed.Goals as goal

pub returns : goal.returns
returns c = subst (λ parts. IfOk c.left_of.result (λ left. content_of_parts left ≡ trimmed c.args.cut (content_of_parts parts))) c.as_ref.ensures c.left_of.ensures
